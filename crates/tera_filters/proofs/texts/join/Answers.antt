use Rattle.std.proofs.Common.{[], codes}
use Rattle.tera.proofs.GivenLaws.{passed_on}
use Rattle.tera.proofs.RefusalLaws.{refuses_on}
use Rattle.tera.specs.Arithmetic.{and_then, each_ok}
use Rattle.tera.specs.Errors.{Refuses}
use Rattle.tera.specs.Taken.{as_items, as_text}
use Rattle.tera_filters.proofs.Given.{refuses_each, refuses_next}
use Rattle.tera_filters.proofs.texts.join.Goals as goal
use Rattle.tera_filters.specs.Arguments.{or_else}
use Rattle.tera_filters.specs.Texts.{join_of, joined, made}

pub returns-in_err-between-clause-err : goal.returns-in_err-between-clause-err
returns-in_err-between-clause-err c =
    let value = c.args.value.now in
    let given = c.args.arguments.now in
    let items = c.in_ok-items.items.now in
    let e = c.in_err-between.field-0.0 in
    passed_on (Refuses (join_of value given)) c.from_residual-in_err-between.result e c.from_residual-in_err-between.ensures.1
    (refuses_next (as_items value)
    (λ xs. and_then (or_else as_text given (codes "sep") []) (λ between. each_ok made (joined between xs))) items e
    c.in_ok-items.ensures.ok
    (refuses_on (or_else as_text given (codes "sep") []) (λ between. each_ok made (joined between items)) e c.in_err-between.ensures.err))

pub returns-in_err-joined-clause-err : goal.returns-in_err-joined-clause-err
returns-in_err-joined-clause-err c =
    let value = c.args.value.now in
    let given = c.args.arguments.now in
    let items = c.in_ok-items.items.now in
    let between = c.in_ok-between.between.now in
    let e = c.in_err-joined.field-0.0 in
    passed_on (Refuses (join_of value given)) c.from_residual-in_err-joined.result e c.from_residual-in_err-joined.ensures.1
    (refuses_next (as_items value)
    (λ xs. and_then (or_else as_text given (codes "sep") []) (λ sep. each_ok made (joined sep xs))) items e
    c.in_ok-items.ensures.ok
    (refuses_next (or_else as_text given (codes "sep") []) (λ sep. each_ok made (joined sep items)) between e
    c.in_ok-between.ensures.ok (refuses_each made (joined between items) e c.in_err-joined.ensures.err)))
