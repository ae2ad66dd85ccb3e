use Rattle.std.proofs.Common.{◌≡◌, Ok, ap, ◌∙◌}
use Rattle.std.proofs.lemmas.Result.{IfOk-weaker, IfErr-weaker}
use Rattle.std.specs.Option.{IsSomeAnd}
use Rattle.tera.specs.Conversion.{IntegerType, converted}
use Rattle.tera.specs.Errors.{Refuses}
use Rattle.tera.specs.Lookup.{attr}
use Rattle.tera.specs.Named.{TakesArgument}
use Rattle.tera.specs.Taken.{Denies}
use Rattle.tera_filters.proofs.Given.{denied_where_there, mapped_to_itself, taken_where_there}
use Rattle.tera_filters.proofs.arguments.bound.Goals as goal
use Rattle.tera_filters.specs.Arguments.{optional}

pub returns-clause-ok : goal.returns-clause-ok
returns-clause-ok c =
    let given = attr c.args.arguments.now c.args.name.now in
    IfOk-weaker c.get.result (TakesArgument (λ v z. converted IntegerType.i128 v ≡ Ok z) given)
    (λ bound. optional (converted IntegerType.i128) c.args.arguments.now c.args.name.now ≡ Ok bound)
    (λ bound is. taken_where_there (converted IntegerType.i128) (λ z. z) given bound is ∙ ap (λ o. Ok o) (mapped_to_itself bound))
    c.get.ensures.ok

pub returns-clause-err : goal.returns-clause-err
returns-clause-err c =
    let given = attr c.args.arguments.now c.args.name.now in
    IfErr-weaker c.get.result (λ e. IsSomeAnd given (λ v. Denies (converted IntegerType.i128 v) e))
    (Refuses (optional (converted IntegerType.i128) c.args.arguments.now c.args.name.now))
    (λ e is. denied_where_there (converted IntegerType.i128) given e is) c.get.ensures.err
