use Rattle.tera_script.proofs.Fronts.{no_prefix, behind_prefix}
use Rattle.tera_script.proofs.Keys.{plain_key_found}
use Rattle.tera_script.proofs.Passed.{text_key_passed, any_key, no_key, no_text_there}
use Rattle.std.proofs.Common.{false}
use Rattle.tera_script.proofs.why_literal.pass_key.Goals as goal

pub returns-in-Some : goal.returns-in-Some
returns-in-Some c =
    text_key_passed c.args.texts c.args.bytes.now c.in-Some.inside.now
    (behind_prefix c.args.bytes.now c.strip_prefix.ensures.cases c.as_slice.ensures c.in-Some.is) c.pass_text.result (c.pass_text.ensures false)

pub returns-in_default-take_plain_key : goal.returns-in_default-take_plain_key
returns-in_default-take_plain_key c =
    no_key c.args.texts (plain_key_found c.args.bytes.now _ (no_prefix c.args.bytes.now c.strip_prefix.ensures.cases c.as_slice.ensures c.in_default.is)
    c.in_default-take_plain_key.ensures)

pub returns-then-texts : goal.returns-then-texts
returns-then-texts c =
    rw (c.if-texts.true) (no_text_there (no_prefix c.args.bytes.now c.strip_prefix.ensures.cases c.as_slice.ensures c.in_default.is))

pub returns : goal.returns
returns c =
    rw (c.if-texts.false) (
      _,
      any_key (plain_key_found c.args.bytes.now _
          (no_prefix c.args.bytes.now c.strip_prefix.ensures.cases c.as_slice.ensures c.in_default.is) c.in-Some-take_plain_key.ensures),
    )
