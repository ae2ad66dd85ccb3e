use Rattle.std.proofs.Common.{◌≡◌, None, Ok, codes, subst}
use Rattle.tera.proofs.GivenLaws.{passed_on}
use Rattle.tera.proofs.RefusalLaws.{refuses_on}
use Rattle.tera.specs.Arithmetic.{and_then}
use Rattle.tera.specs.Conversion.{IntegerType, converted}
use Rattle.tera.specs.Errors.{Refuses}
use Rattle.tera.specs.Slice.{sliced}
use Rattle.tera_filters.proofs.Given.{first_gives, refuses_next}
use Rattle.tera_filters.proofs.arrays.slice.Goals as goal
use Rattle.tera_filters.specs.Arguments.{optional}
use Rattle.tera_filters.specs.Arrays.{slice_of}

pub returns-in_err-end-clause-err : goal.returns-in_err-end-clause-err
returns-in_err-end-clause-err c =
    let value = c.args.value.now in
    let given = c.args.arguments.now in
    let start = c.in_ok-start.start in
    let e = c.in_err-end.field-0.0 in
    passed_on (Refuses (slice_of value given)) c.from_residual-in_err-end.result e c.from_residual-in_err-end.ensures.1
    (refuses_next (optional (converted IntegerType.i128) given (codes "start"))
    (λ s. and_then (optional (converted IntegerType.i128) given (codes "end")) (λ end. sliced value s end None)) start e
    c.in_ok-start.ensures.ok
    (refuses_on (optional (converted IntegerType.i128) given (codes "end")) (λ end. sliced value start end None) e
    c.in_err-end.ensures.err))

pub returns-in_err-end-clause-empty : goal.returns-in_err-end-clause-empty
returns-in_err-end-clause-empty c made is empty =
    let start = c.in_ok-start.start in
    let end = optional (converted IntegerType.i128) c.args.arguments.now (codes "end") in
    let later = subst (λ s. and_then s (λ start. and_then end (λ end. sliced c.args.value.now start end None)) ≡ Ok made) c.in_ok-start.ensures.ok is in
    let never = c.in_err-end.ensures.succeeds (first_gives end (λ end. sliced c.args.value.now start end None) made later) in absurd (cc)
