use Rattle.std.proofs.Common.{◌≡◌, pos, Ok}
use Rattle.std.proofs.lemmas.Result.{IfOk-weaker, IfErr-weaker}
use Rattle.std.specs.Option.{IsSomeAnd, option_map}
use Rattle.tera.specs.Conversion.{IntegerType, converted}
use Rattle.tera.specs.Errors.{Refuses}
use Rattle.tera.specs.Lookup.{attr}
use Rattle.tera.specs.Named.{TakesArgument}
use Rattle.tera.specs.Taken.{Denies}
use Rattle.tera_filters.proofs.Given.{denied_where_there, taken_where_there}
use Rattle.tera_filters.proofs.arguments.optional_place.Goals as goal
use Rattle.tera_filters.specs.Arguments.{optional}

pub returns-clause-ok : goal.returns-clause-ok
returns-clause-ok c =
    let given = attr c.args.arguments.now c.args.name.now in
    IfOk-weaker c.get.result (TakesArgument (λ v n. converted IntegerType.usize v ≡ Ok (pos n)) given)
    (λ o. optional (converted IntegerType.usize) c.args.arguments.now c.args.name.now ≡ Ok (option_map (λ n. pos n) o))
    (λ o is. taken_where_there (converted IntegerType.usize) (λ n. pos n) given o is) c.get.ensures.ok

pub returns-clause-err : goal.returns-clause-err
returns-clause-err c =
    let given = attr c.args.arguments.now c.args.name.now in
    IfErr-weaker c.get.result (λ e. IsSomeAnd given (λ v. Denies (converted IntegerType.usize v) e))
    (Refuses (optional (converted IntegerType.usize) c.args.arguments.now c.args.name.now))
    (λ e is. denied_where_there (converted IntegerType.usize) given e is) c.get.ensures.err
