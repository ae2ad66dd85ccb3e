use Rattle.std.proofs.Common.{codes}
use Rattle.tera.proofs.GivenLaws.{passed_on}
use Rattle.tera.proofs.RefusalLaws.{refuses_on}
use Rattle.tera.specs.Arithmetic.{and_then, each_ok}
use Rattle.tera.specs.Errors.{Refuses}
use Rattle.tera.specs.Taken.{as_text}
use Rattle.tera_filters.proofs.Given.{refuses_each, refuses_next}
use Rattle.tera_filters.proofs.parts.replace.Goals as goal
use Rattle.tera_filters.specs.Arguments.{needed}
use Rattle.tera_filters.specs.Parts.{replace_of, replaced}
use Rattle.tera_filters.specs.Texts.{made}

pub returns-in_err-from-clause-err : goal.returns-in_err-from-clause-err
returns-in_err-from-clause-err c =
    let value = c.args.value.now in
    let given = c.args.arguments.now in
    let text = c.in_ok-text.text.now in
    let e = c.in_err-from.field-0.0 in
    passed_on (Refuses (replace_of value given)) c.from_residual-in_err-from.result e c.from_residual-in_err-from.ensures.1
    (refuses_next (as_text value)
    (λ t. and_then (needed as_text given (codes "from"))
    (λ from. each_ok (λ to. made (replaced to from t)) (needed as_text given (codes "to")))) text e c.in_ok-text.ensures.ok
    (refuses_on (needed as_text given (codes "from"))
    (λ from. each_ok (λ to. made (replaced to from text)) (needed as_text given (codes "to"))) e c.in_err-from.ensures.err))

pub returns-in_err-to-clause-err : goal.returns-in_err-to-clause-err
returns-in_err-to-clause-err c =
    let value = c.args.value.now in
    let given = c.args.arguments.now in
    let text = c.in_ok-text.text.now in
    let from = c.in_ok-from.from.now in
    let e = c.in_err-to.field-0.0 in
    passed_on (Refuses (replace_of value given)) c.from_residual-in_err-to.result e c.from_residual-in_err-to.ensures.1
    (refuses_next (as_text value)
    (λ t. and_then (needed as_text given (codes "from")) (λ f. each_ok (λ to. made (replaced to f t)) (needed as_text given (codes "to")))) text e
    c.in_ok-text.ensures.ok
    (refuses_next (needed as_text given (codes "from")) (λ f. each_ok (λ to. made (replaced to f text)) (needed as_text given (codes "to"))) from e
    c.in_ok-from.ensures.ok
    (refuses_each (λ to. made (replaced to from text)) (needed as_text given (codes "to")) e c.in_err-to.ensures.err)))
