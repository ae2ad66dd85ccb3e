use Rattle.std.proofs.Common.{Some, false, sym, subst, ap, ◌∙◌}
use Rattle.std.specs.Option.{option_map}
use Rattle.tera_script.specs.Readers.{key_rest, IsKeyAt}
use Rattle.tera_script.specs.TextParts.{BeginsWithInline}
use Rattle.tera_script.proofs.Fronts.{no_prefix, behind_prefix, tail}
use Rattle.tera_script.proofs.Keys.{quote_is_no_word, plain_key_found, no_text_key, text_key_found}
use Rattle.tera_script.proofs.Literals.{quoted_none}
use Rattle.tera_script.proofs.key.take_key.Goals as goal

pub returns-in_default-clause-key : goal.returns-in_default-clause-key
returns-in_default-clause-key c = plain_key_found c.args.bytes.now (option_map key_rest c.take_plain_key.result)
    (no_prefix c.args.bytes.now c.strip_prefix.ensures.cases c.as_slice.ensures c.in_default.is) c.take_plain_key.ensures

pub returns-in_default-2-clause-key : goal.returns-in_default-2-clause-key
returns-in_default-2-clause-key c =
    let spelled = behind_prefix c.args.bytes.now c.strip_prefix.ensures.cases c.as_slice.ensures c.in-Some.is in
    no_text_key c.args.bytes.now c.in-Some.behind.now spelled (quoted_none false c.in-Some.behind.now (rw (c.in_default-2.is) at c.in_ok-key.ensures.text))

pub returns-clause-key : goal.returns-clause-key
returns-clause-key c =
    let behind = c.in-Some.behind.now in
    let rest = c.split_at.result.1.now in
    let spelled = behind_prefix c.args.bytes.now c.strip_prefix.ensures.cases c.as_slice.ensures c.in-Some.is in
    let found = rw (c.in-Some-2.is) at c.in_ok-key.ensures.text in
    subst (λ k. IsKeyAt c.args.bytes.now (Some (k, rest))) (sym found.2)
    (text_key_found c.args.bytes.now behind found.0 rest c.in-Some-2.used spelled found.1 c.split_at.ensures.back)

pub returns-in_err-key-clause-free : goal.returns-in_err-key-clause-free
returns-in_err-key-clause-free c = λ plain.
    absurd (quote_is_no_word (behind_prefix c.args.bytes.now c.strip_prefix.ensures.cases c.as_slice.ensures c.in-Some.is) plain)

pub returns-in_err-key-clause-short : goal.returns-in_err-key-clause-short
returns-in_err-key-clause-short c = λ behind e short.
    let spelled = behind_prefix c.args.bytes.now c.strip_prefix.ensures.cases c.as_slice.ensures c.in-Some.is in
    let no = c.in_err-key.ensures.free (subst BeginsWithInline (ap tail (sym e ∙ spelled)) short) in
    cc
