use Rattle.std.proofs.Common.{◌≡◌, Ok}
use Rattle.std.proofs.lemmas.Result.{IfOk-weaker, IfErr-weaker}
use Rattle.std.specs.Option.{IsSomeAnd, option_copied}
use Rattle.tera.specs.Errors.{Refuses}
use Rattle.tera.specs.Lookup.{attr}
use Rattle.tera.specs.Named.{TakesArgument}
use Rattle.tera.specs.Taken.{Denies, as_text}
use Rattle.tera_filters.proofs.Given.{denied_where_there, taken_where_there}
use Rattle.tera_filters.proofs.arguments.optional_text.Goals as goal
use Rattle.tera_filters.specs.Arguments.{optional}

pub returns-clause-ok : goal.returns-clause-ok
returns-clause-ok c =
    let given = attr c.args.arguments.now c.args.name.now in
    IfOk-weaker c.get.result (TakesArgument (λ v t. as_text v ≡ Ok t.now) given)
    (λ o. optional as_text c.args.arguments.now c.args.name.now ≡ Ok (option_copied o))
    (λ o is. taken_where_there as_text (λ t. t.now) given o is) c.get.ensures.ok

pub returns-clause-err : goal.returns-clause-err
returns-clause-err c =
    let given = attr c.args.arguments.now c.args.name.now in
    IfErr-weaker c.get.result (λ e. IsSomeAnd given (λ v. Denies (as_text v) e))
    (Refuses (optional as_text c.args.arguments.now c.args.name.now))
    (λ e is. denied_where_there as_text given e is) c.get.ensures.err
