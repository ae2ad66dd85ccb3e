-- What a step finds.
use Rattle.std.specs.Prelude.{ℕ, List, Option, Result}
use Rattle.tera_report.specs.declared.errors.Error.{Error}
use Rattle.tera_meaning.specs.Request.{find}
use Rattle.tera_meaning.specs.Search.{Search}
use Rattle.tera_meaning.specs.State.{State}
use Rattle.tera_meaning.specs.Step.{IsStep}
use Rattle.tera_context.specs.declared.call.Answer.{Answer}
use Rattle.tera_context.specs.Steps.{ShowsOneOf}

-- the result shows an outcome of the step that a search is, and this is what the step leaves. A
-- record, so that no tactic opens it where it is passed on
pub record Finds (state : State) (search : Search) (into : Option (List ℕ))
    (result : Result Answer Error) (new : State) : Type 0 where
  pub shown : ShowsOneOf result
      (λ outcome. IsStep state (record { request = find search; into = into }) outcome new)
