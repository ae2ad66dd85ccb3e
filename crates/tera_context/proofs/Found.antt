-- What a search finds, or refuses.
use Rattle.std.specs.Prelude.{◌≡◌, ℕ, List, Option, Result, Ok, Err, IsErr, IsErrAnd, refl}
use Rattle.std.proofs.Common.{sym, ◌∙◌, ap, subst, inl, inr}
use Rattle.tera_report.specs.declared.errors.Error.{Error}
use Rattle.tera_report.specs.Errors.{Raises, Refuses, IsOutOfMemory}
use Rattle.tera_report.specs.Refusal.{Refusal, stated}
use Rattle.tera_meaning.specs.Form.{Form}
use Rattle.tera_meaning.specs.Outcome.{Outcome}
use Rattle.tera_meaning.specs.Request.{find}
use Rattle.tera_meaning.specs.Search.{Search, Found, found_at, one_found, FoundTakes, MadeTakes}
use Rattle.tera_meaning.specs.State.{State}
use Rattle.tera_meaning.specs.Step.{found_or_kept, keeping, IsStep}
use Rattle.tera_meaning.proofs.StepLaws.{refused_answer, refused_left}
use Rattle.tera_context.specs.declared.call.Answer.{Answer}
use Rattle.tera_context.specs.Steps.{ShowsOneOf}
use Rattle.tera_context.specs.inner.Finds.{Finds}
use Rattle.tera_context.proofs.ShownLaws.{refusal_shown, want_shown}

-- the step that a search is, and what shows it
abbrev pub IsSearchStep : State → Search → Option (List ℕ) → State → Outcome → Type 0
IsSearchStep state search into new outcome = IsStep state (record { request = find search; into = into }) outcome new

abbrev pub FindsAt : State → Search → Option (List ℕ) → Result Answer Error → State → Type 0
FindsAt state search into result new = ShowsOneOf result (IsSearchStep state search into new)

-- a search that wanted memory for what it makes changes nothing
copy_refused : (e : Error) (state : State) (search : Search) (into : Option (List ℕ)) → IsOutOfMemory e → FoundTakes search (found_at state search)
    → FindsAt state search into (Err e) state
copy_refused e state search into want takes = want_shown (Err e) e (IsSearchStep state search into state) refl want (inr (inl takes, refl, refl))

-- a search that was refused changes nothing
search_refused : (e : Error) (found : Found) (state : State) (search : Search) (into : Option (List ℕ))
    → Refuses found e → found_at state search ≡ found → FoundTakes search (found_at state search) → FindsAt state search into (Err e) state
search_refused e (Ok value) state search into want finds takes = copy_refused e state search into want takes
search_refused e (Err refusal) state search into (inl shows) finds takes =
    refusal_shown (Err e) e (IsSearchStep state search into state) refl refusal shows (inl (
      sym (ap (found_or_kept into) finds ∙ refused_answer into refusal),
      sym (ap (keeping state into) finds ∙ refused_left state into refusal),
    ))
search_refused e (Err refusal) state search into (inr want) finds takes = copy_refused e state search into want takes

pub refusal_found : (e : Error) (state : State) (search : Search) (into : Option (List ℕ)) → Refuses (found_at state search) e
    → FoundTakes search (found_at state search) → Finds state search into (Err e) state
refusal_found e state search into refuses takes = record { shown = search_refused e (found_at state search) state search into refuses refl takes }

-- what refuses what is to be given refuses what is found
pub given_refused : (e : Error) (given : Result Form Refusal) (found : Found) → Refuses given e → found ≡ one_found given → Refuses found e
given_refused e (Ok value) found refuses is = subst (λ (f : Found). Refuses f e) (sym is) refuses
given_refused e (Err refusal) found refuses is = subst (λ (f : Found). Refuses f e) (sym is) refuses

-- what is found takes memory where what is given does
pub made_takes : (search : Search) (given : Result Form Refusal) (found : Found) → found ≡ one_found given
    → ((value : Form) → given ≡ Ok value → MadeTakes search value) → FoundTakes search found
made_takes search (Ok value) found is takes = subst (FoundTakes search) (sym is) (takes value refl)
made_takes search (Err refusal) found is takes = subst (FoundTakes search) (sym is) tt

-- a refused search that takes memory for a refusal's text alone changes nothing
pub number_refused : (e : Error) (given : Result Form Refusal) (state : State) (search : Search) (into : Option (List ℕ))
    → Refuses given e → found_at state search ≡ one_found given → IsErr given → FindsAt state search into (Err e) state
number_refused e (Ok value) state search into want finds is = cc
number_refused e (Err refusal) state search into (inl shows) finds is =
    refusal_shown (Err e) e (IsSearchStep state search into state) refl refusal shows (inl (
      sym (ap (found_or_kept into) finds ∙ refused_answer into refusal),
      sym (ap (keeping state into) finds ∙ refused_left state into refusal),
    ))
number_refused e (Err refusal) state search into (inr want) finds is =
    want_shown (Err e) e (IsSearchStep state search into state) refl want
    (inr (inl (subst (FoundTakes search) (sym finds) tt), refl, refl))

-- a result that is the refusal of such a search shows it
pub number_not_found : (r : Result Answer Error) (refusal : Refusal) (state : State) (search : Search) (into : Option (List ℕ))
    → IsErrAnd r (Raises (stated refusal)) → found_at state search ≡ one_found (Err refusal) → FindsAt state search into r state
number_not_found (Ok answer) refusal state search into raises finds = absurd raises
number_not_found (Err e) refusal state search into raises finds = number_refused e (Err refusal) state search into raises finds refl
