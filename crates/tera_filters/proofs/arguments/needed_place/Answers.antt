use Rattle.std.proofs.Common.{◌≡◌, pos, Ok, MatchOption}
use Rattle.std.proofs.lemmas.Result.{IfOk-weaker, IfErr-weaker}
use Rattle.std.specs.Option.{IsSomeAnd}
use Rattle.tera.specs.Conversion.{IntegerType, converted}
use Rattle.tera.specs.Errors.{Raises, Refuses}
use Rattle.tera.specs.Lookup.{attr}
use Rattle.tera.specs.Refusal.{missing_argument}
use Rattle.tera.specs.Taken.{Denies}
use Rattle.tera_filters.proofs.Given.{denied_where_needed, taken_where_needed}
use Rattle.tera_filters.proofs.arguments.needed_place.Goals as goal
use Rattle.tera_filters.specs.Arguments.{needed}

pub returns-clause-ok : goal.returns-clause-ok
returns-clause-ok c =
    let given = attr c.args.arguments.now c.args.name.now in
    IfOk-weaker c.must_get.result (λ n. IsSomeAnd given (λ v. converted IntegerType.usize v ≡ Ok (pos n)))
    (λ n. needed (converted IntegerType.usize) c.args.arguments.now c.args.name.now ≡ Ok (pos n))
    (λ n is. taken_where_needed (converted IntegerType.usize) c.args.name.now given (pos n) is) c.must_get.ensures.ok

pub returns-clause-err : goal.returns-clause-err
returns-clause-err c =
    let given = attr c.args.arguments.now c.args.name.now in
    IfErr-weaker c.must_get.result
    (λ e. MatchOption given (Raises (missing_argument c.args.name.now) e) (λ v. Denies (converted IntegerType.usize v) e))
    (Refuses (needed (converted IntegerType.usize) c.args.arguments.now c.args.name.now))
    (λ e is. denied_where_needed (converted IntegerType.usize) c.args.name.now given e is) c.must_get.ensures.err
