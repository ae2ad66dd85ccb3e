use Rattle.std.proofs.Common.{codes, pos, nat_abs}
use Rattle.tera.proofs.GivenLaws.{passed_on}
use Rattle.tera.proofs.RefusalLaws.{refuses_on}
use Rattle.tera.specs.Arithmetic.{and_then, each_ok}
use Rattle.tera.specs.Conversion.{IntegerType, converted}
use Rattle.tera.specs.Errors.{Refuses}
use Rattle.tera.specs.Taken.{as_text}
use Rattle.tera_filters.proofs.Given.{refuses_each, refuses_next}
use Rattle.tera_filters.proofs.parts.truncate.Goals as goal
use Rattle.tera_filters.specs.Arguments.{or_else}
use Rattle.tera_filters.specs.Parts.{ellipsis, truncate_of, truncated}
use Rattle.tera_filters.specs.Texts.{made}

pub returns-in_err-length-clause-err : goal.returns-in_err-length-clause-err
returns-in_err-length-clause-err c =
    let value = c.args.value.now in
    let given = c.args.arguments.now in
    let text = c.in_ok-text.text.now in
    let e = c.in_err-length.field-0.0 in
    passed_on (Refuses (truncate_of value given)) c.from_residual-in_err-length.result e c.from_residual-in_err-length.ensures.1
    (refuses_next (as_text value)
    (λ t. and_then (or_else (converted IntegerType.usize) given (codes "length") (pos 255))
    (λ n. each_ok (λ end. made (truncated (nat_abs n) end t)) (or_else as_text given (codes "end") ellipsis))) text e c.in_ok-text.ensures.ok
    (refuses_on (or_else (converted IntegerType.usize) given (codes "length") (pos 255))
    (λ n. each_ok (λ end. made (truncated (nat_abs n) end text)) (or_else as_text given (codes "end") ellipsis)) e c.in_err-length.ensures.err))

pub returns-in_err-end-clause-err : goal.returns-in_err-end-clause-err
returns-in_err-end-clause-err c =
    let value = c.args.value.now in
    let given = c.args.arguments.now in
    let text = c.in_ok-text.text.now in
    let length = c.in_ok-length.length in
    let e = c.in_err-end.field-0.0 in
    passed_on (Refuses (truncate_of value given)) c.from_residual-in_err-end.result e c.from_residual-in_err-end.ensures.1
    (refuses_next (as_text value)
    (λ t. and_then (or_else (converted IntegerType.usize) given (codes "length") (pos 255))
    (λ n. each_ok (λ end. made (truncated (nat_abs n) end t)) (or_else as_text given (codes "end") ellipsis))) text e c.in_ok-text.ensures.ok
    (refuses_next (or_else (converted IntegerType.usize) given (codes "length") (pos 255))
    (λ n. each_ok (λ end. made (truncated (nat_abs n) end text)) (or_else as_text given (codes "end") ellipsis)) (pos length) e
    c.in_ok-length.ensures.ok
    (refuses_each (λ end. made (truncated length end text)) (or_else as_text given (codes "end") ellipsis) e c.in_err-end.ensures.err)))
