use Rattle.std.proofs.Common.{sym, false}
use Rattle.tera_script.proofs.Fronts.{no_prefix, behind_prefix}
use Rattle.tera_script.proofs.Passed.{text_operand_passed}
use Rattle.tera_script.proofs.Values.{text_none_gap, text_none_quote}
use Rattle.tera_script.proofs.why_operand.pass_quoted.Goals as goal

pub returns-in_default : goal.returns-in_default
returns-in_default c = text_none_gap (sym c.in_default.ensures)

pub returns-in_default-strip_prefix : goal.returns-in_default-strip_prefix
returns-in_default-strip_prefix c =
    text_none_quote _ (sym c.in-Some.ensures) (no_prefix c.in-Some.literal.now c.strip_prefix.ensures.cases c.as_slice.ensures c.in_default-strip_prefix.is)

pub returns : goal.returns
returns c =
    text_operand_passed c.args.bytes.now (sym c.in-Some.ensures) c.in-Some-strip_prefix.quoted.now
    (behind_prefix c.in-Some.literal.now c.strip_prefix.ensures.cases c.as_slice.ensures c.in-Some-strip_prefix.is) c.pass_text.result
    (c.pass_text.ensures false)
