use Rattle.std.proofs.Common.{inl, inr, Some, None, refl, sym, false, subst, ◌∷◌, []}
use Rattle.std.specs.Cow.{cow_str_bytes}
use Rattle.tera_values.specs.View.{marked}
use Rattle.tera_script.specs.Line.{HasNoEscape}
use Rattle.tera_script.proofs.Bare.{all_past_gap, quote_opens}
use Rattle.tera_script.proofs.Fronts.{all_behind, no_prefix, behind_prefix}
use Rattle.tera_script.proofs.Literals.{quoted_none, quoted_some}
use Rattle.tera_script.proofs.Values.{text_none_gap, text_none_quote, text_at}
use Rattle.tera_script.proofs.operand.take_text_operand.Goals as goal

pub returns-in_default-clause-text : goal.returns-in_default-clause-text
returns-in_default-clause-text c = text_none_gap (sym c.in_default.ensures)

pub returns-in_default-strip_prefix-clause-text : goal.returns-in_default-strip_prefix-clause-text
returns-in_default-strip_prefix-clause-text c =
    text_none_quote _ (sym c.in-Some.ensures) (no_prefix c.in-Some.literal.now c.strip_prefix.ensures.cases c.as_slice.ensures c.in_default-strip_prefix.is)

pub returns-in_default-2-clause-text : goal.returns-in_default-2-clause-text
returns-in_default-2-clause-text c =
    text_at _ (sym c.in-Some.ensures) _ (behind_prefix c.in-Some.literal.now c.strip_prefix.ensures.cases c.as_slice.ensures c.in-Some-strip_prefix.is) None
    (quoted_none false c.in-Some-strip_prefix.quoted.now (rw (c.in_default-2.is) at c.in_ok-text.ensures.text))

pub returns-clause-text : goal.returns-clause-text
returns-clause-text c =
    let t = cow_str_bytes c.in-Some-2.text in
    text_at _ (sym c.in-Some.ensures) _ (behind_prefix c.in-Some.literal.now c.strip_prefix.ensures.cases c.as_slice.ensures c.in-Some-strip_prefix.is)
    (Some (t, c.split_at.result.1.now))
    (quoted_some false c.in-Some-strip_prefix.quoted.now t c.split_at.result.1.now c.in-Some-2.used (marked t false)
    (rw (c.in-Some-2.is) at c.in_ok-text.ensures.text) refl c.split_at.ensures.back)

pub returns-in_err-text-clause-free : goal.returns-in_err-text-clause-free
returns-in_err-text-clause-free c = λ free.
    let spelled = behind_prefix c.in-Some.literal.now c.strip_prefix.ensures.cases c.as_slice.ensures c.in-Some-strip_prefix.is in
    elim free [
      | inl bare ↦ absurd (quote_opens spelled (inl (all_past_gap _ c.args.bytes.now c.in-Some.ensures bare)))
      | inr none ↦ absurd (cc (c.in_err-text.ensures.free
          (all_behind _ (34 ∷ []) c.in-Some-strip_prefix.quoted.now (subst HasNoEscape spelled (all_past_gap _ c.args.bytes.now c.in-Some.ensures none)))))
    ]
