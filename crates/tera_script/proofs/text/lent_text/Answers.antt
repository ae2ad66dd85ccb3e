use Rattle.std.proofs.Common.{◌∷◌, ◌++◌, ◌∙◌, ◌+◌, ap, arith, inl, inr, sym, subst, length}
use Rattle.std.specs.Str.{IsUtf8}
use Rattle.tera_script.specs.Line.{HasNoEscape}
use Rattle.tera_script.specs.Text.{BeginsWithText}
use Rattle.tera_script.specs.TextParts.{IsNoRun}
use Rattle.tera_script.proofs.Fronts.{all_behind}
use Rattle.tera_script.proofs.ShortTexts.{no_quote, run_cut, run_no_text}
use Rattle.tera_script.proofs.Texts.{run_closed}
use Rattle.tera_script.proofs.text.lent_text.Goals as goal

pub returns-in_default-clause-text : goal.returns-in_default-clause-text
returns-in_default-clause-text c = no_quote c.args.bytes.now c.in_default.ensures.none

pub returns-in_default-split_first-clause-text : goal.returns-in_default-split_first-clause-text
returns-in_default-split_first-clause-text c = λ text used u b.
    absurd (omega (arith, c.in-Some.ensures.within, c.split_at.ensures.back_len, c.in_default-split_first.ensures.cases))

pub returns-then-mark-ne34-clause-free : goal.returns-then-mark-ne34-clause-free
returns-then-mark-ne34-clause-free c = λ free.
    let near = c.in-Some.ensures in
    let run = run_cut c.args.bytes.now near.within near.plain near.ends c.split_at.ensures.front c.split_at.ensures.back in
    let cut = run.1 ∙ ap (λ xs. c.split_at.result.0.now ++ xs) c.in-Some-split_first.ensures.cases.0 in
    let other = (all_behind _ c.split_at.result.0.now (c.in-Some-split_first.mark.now ∷ c.in-Some-split_first.field-0-1.now) (subst HasNoEscape cut free)).0 in
    let ends = subst IsNoRun c.in-Some-split_first.ensures.cases.0 run.2 in
    absurd (elim ends [ inl is ↦ c.if-mark-ne34.true is | inr is ↦ other is ])

pub returns-in-Ok-clause-text : goal.returns-in-Ok-clause-text
returns-in-Ok-clause-text c =
    let near = c.in-Some.ensures in
    let run = run_cut c.args.bytes.now near.within near.plain near.ends c.split_at.ensures.front c.split_at.ensures.back in
    let closed = c.in-Some-split_first.ensures.cases.0 ∙ ap (λ b. b ∷ c.in-Some-split_first.field-0-1.now) c.if-mark-ne34.false in
    subst (λ n. BeginsWithText c.args.bytes.now c.in-Ok.text.now (n + 1)) c.split_at.ensures.front_len
    (subst (λ t. BeginsWithText c.args.bytes.now t (length c.split_at.result.0.now + 1)) (sym c.in-Ok.ensures.cases.0) (run_closed run closed))

pub returns-in-Err-clause-text : goal.returns-in-Err-clause-text
returns-in-Err-clause-text c =
    let near = c.in-Some.ensures in
    let run = run_cut c.args.bytes.now near.within near.plain near.ends c.split_at.ensures.front c.split_at.ensures.back in
    let closed = c.in-Some-split_first.ensures.cases.0 ∙ ap (λ b. b ∷ c.in-Some-split_first.field-0-1.now) c.if-mark-ne34.false in
    run_no_text run closed c.in-Err.ensures.cases.0
