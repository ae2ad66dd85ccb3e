use Rattle.std.proofs.lemmas.Result.{err_from_is_err_and}
use Rattle.tera_script.proofs.Passed.{name_passed, both_passed}
use Rattle.tera_script.proofs.Values.{no_name, quoted_parts, bounds_parts, value_parts}
use Rattle.tera_script.proofs.why.pass_operands.Goals as goal

pub returns-in-Name : goal.returns-in-Name
returns-in-Name c = rw (c.in-Name.is) (name_passed c.args.bytes.now c.pass_name.result c.pass_name.ensures)

pub returns-in-Names : goal.returns-in-Names
returns-in-Names c = rw (c.in-Names.is) c.pass_names.ensures

pub returns-in-Type : goal.returns-in-Type
returns-in-Type c = rw (c.in-Type.is) c.pass_type.ensures

pub returns-in-Map : goal.returns-in-Map
returns-in-Map c = rw (c.in-Map.is) c.pass_source.ensures

pub returns-in_ok-pass_name-in-Text : goal.returns-in_ok-pass_name-in-Text
returns-in_ok-pass_name-in-Text c =
    rw (c.in-Text.is) (both_passed quoted_parts c.args.bytes.now c.in_ok-pass_name-in-Text.ensures.1 c.pass_quoted.result c.pass_quoted.ensures)

pub returns-in_err-pass_name-in-Text : goal.returns-in_err-pass_name-in-Text
returns-in_err-pass_name-in-Text c =
    rw (c.in-Text.is, (err_from_is_err_and c.from_residual.result c.from_residual.ensures.1).1) (no_name quoted_parts c.in_err-pass_name-in-Text.ensures)

pub returns-in_ok-pass_name-in-Bounds : goal.returns-in_ok-pass_name-in-Bounds
returns-in_ok-pass_name-in-Bounds c =
    rw (c.in-Bounds.is) (both_passed bounds_parts c.args.bytes.now c.in_ok-pass_name-in-Bounds.ensures.1 c.pass_bounds.result c.pass_bounds.ensures)

pub returns-in_err-pass_name-in-Bounds : goal.returns-in_err-pass_name-in-Bounds
returns-in_err-pass_name-in-Bounds c =
    let p = err_from_is_err_and c.from_residual-in_err-pass_name-in-Bounds.result c.from_residual-in_err-pass_name-in-Bounds.ensures.1 in
    rw (c.in-Bounds.is, p.1) (no_name bounds_parts c.in_err-pass_name-in-Bounds.ensures)

pub returns-in_ok-pass_name-in-Literal : goal.returns-in_ok-pass_name-in-Literal
returns-in_ok-pass_name-in-Literal c =
    rw (c.in-Literal.is) (both_passed value_parts c.args.bytes.now c.in_ok-pass_name-in-Literal.ensures.1 c.pass_value.result c.pass_value.ensures)

pub returns-in_err-pass_name-in-Literal : goal.returns-in_err-pass_name-in-Literal
returns-in_err-pass_name-in-Literal c =
    let p = err_from_is_err_and c.from_residual-in_err-pass_name-in-Literal.result c.from_residual-in_err-pass_name-in-Literal.ensures.1 in
    rw (c.in-Literal.is, p.1) (no_name value_parts c.in_err-pass_name-in-Literal.ensures)
