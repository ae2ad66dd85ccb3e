use Rattle.std.proofs.Common.{false, true}
use Rattle.tera_script.proofs.Fronts.{no_prefix, behind_prefix}
use Rattle.tera_script.proofs.Passed.{quoted_passed, hex_passed, plain_passed}
use Rattle.tera_script.proofs.why_literal.pass_flat.Goals as goal

pub returns-in-Some : goal.returns-in-Some
returns-in-Some c = λ levels no_array no_map.
    let opens = behind_prefix c.args.bytes.now c.strip_prefix.ensures.cases c.as_slice.ensures c.in-Some.is in
    rw opens (quoted_passed levels false c.in-Some.text.now c.pass_text.result (c.pass_text.ensures false))

pub returns-in-Some-strip_prefix : goal.returns-in-Some-strip_prefix
returns-in-Some-strip_prefix c = λ levels no_array no_map.
    let opens = behind_prefix c.args.bytes.now c.strip_prefix-in_default.ensures.cases c.as_slice-in_default.ensures c.in-Some-strip_prefix.is in
    rw opens (quoted_passed levels true c.in-Some-strip_prefix.text.now c.pass_text-in-Some-strip_prefix.result (c.pass_text-in-Some-strip_prefix.ensures true))

pub returns-in-Some-strip_prefix-2 : goal.returns-in-Some-strip_prefix-2
returns-in-Some-strip_prefix-2 c = λ levels no_array no_map.
    let opens = behind_prefix c.args.bytes.now c.strip_prefix-in_default-strip_prefix.ensures.cases c.as_slice-in_default-strip_prefix.ensures
    c.in-Some-strip_prefix-2.is in
    rw opens (hex_passed levels c.in-Some-strip_prefix-2.digits.now c.pass_hex.result c.pass_hex.ensures)

pub returns-in_default-strip_prefix-2 : goal.returns-in_default-strip_prefix-2
returns-in_default-strip_prefix-2 c = λ levels no_array no_map.
    plain_passed levels c.args.bytes.now
    (no_prefix c.args.bytes.now c.strip_prefix.ensures.cases c.as_slice.ensures c.in_default.is)
    (no_prefix c.args.bytes.now c.strip_prefix-in_default.ensures.cases c.as_slice-in_default.ensures c.in_default-strip_prefix.is)
    (no_prefix c.args.bytes.now c.strip_prefix-in_default-strip_prefix.ensures.cases c.as_slice-in_default-strip_prefix.ensures c.in_default-strip_prefix-2.is)
    no_array no_map c.pass_plain.result c.pass_plain.ensures
