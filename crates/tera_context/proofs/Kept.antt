-- What is refused changes nothing.
use Rattle.std.specs.Prelude.{◌≡◌, ℕ, List, Option, Some, None, Result, Ok, Err, OnErr, refl}
use Rattle.std.proofs.Common.{◌∙◌, inl, inr}
use Rattle.tera_report.specs.declared.errors.Error.{Error}
use Rattle.tera_report.specs.Refusal.{Refusal}
use Rattle.tera_meaning.specs.Request.{find}
use Rattle.tera_meaning.specs.Search.{Search, Found, found_at}
use Rattle.tera_meaning.specs.State.{State}
use Rattle.tera_meaning.specs.Step.{found_or_kept, keeping, IsStep}
use Rattle.tera_context.specs.declared.call.Answer.{Answer}
use Rattle.tera_context.specs.Steps.{ShowsOneOf}
use Rattle.tera_context.specs.inner.Finds.{Finds}

keeps_none : (into : Option (List ℕ)) (found : Found) (state : State) (refusal : Refusal)
    → Err refusal ≡ found_or_kept into found → keeping state into found ≡ state
keeps_none None (Ok value) state refusal is = refl
keeps_none None (Err e) state refusal is = refl
keeps_none (Some into) (Ok None) state refusal is = refl
keeps_none (Some into) (Ok (Some value)) state refusal is = absurd (cc)
keeps_none (Some into) (Err e) state refusal is = refl

-- a search that is refused
pub search_kept : (state : State) (search : Search) (into : Option (List ℕ)) (r : Result Answer Error) (new : State)
    → ShowsOneOf r (λ outcome. IsStep state (record { request = find search; into = into }) outcome new) → OnErr r (new ≡ state)
search_kept state search into (Ok answer) new shown = tt
search_kept state search into (Err e) new (refusal, shows, inl (is, left)) =
    left ∙ keeps_none into (found_at state search) state refusal is
search_kept state search into (Err e) new (refusal, shows, inr (may, want, left)) = left

pub find_kept : (state : State) (search : Search) (into : Option (List ℕ)) (r : Result Answer Error) (new : State)
    → Finds state search into r new → OnErr r (new ≡ state)
find_kept state search into r new finds = search_kept state search into r new finds.shown

-- what changes nothing at all
pub none_changed : (r : Result Answer Error) (state : State) → OnErr r (state ≡ state)
none_changed (Ok answer) state = tt
none_changed (Err e) state = refl

pub ruleset laws = (find_kept, search_kept, none_changed)
