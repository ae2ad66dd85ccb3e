-- What results show of the model's outcomes.
use Rattle.std.specs.Prelude.{◌≡◌, ℕ, List, Bool, true, false, is_ok, Option, Result, Ok, Err, IsErrAnd, IsOk, IsErr, IsTrue, refl}
use Rattle.std.proofs.lemmas.Bool.{false≢true}
use Rattle.std.proofs.Common.{sym, ◌∙◌, ap, subst, inl, inr}
use Rattle.tera_report.specs.declared.errors.Error.{Error}
use Rattle.tera_report.specs.Errors.{Shows, Refuses, IsOutOfMemory}
use Rattle.tera_report.specs.Refusal.{Refusal, memory_refused}
use Rattle.tera_meaning.specs.Outcome.{Outcome, out_of_memory}
use Rattle.tera_meaning.specs.Request.{weigh}
use Rattle.tera_meaning.specs.State.{State, form_at}
use Rattle.tera_meaning.specs.Weighing.{Weighing, weighed, truth_told}
use Rattle.tera_meaning.specs.Step.{IsStep}
use Rattle.tera_context.specs.declared.call.Answer.{Answer}
use Rattle.tera_context.specs.Steps.{ShowsOutcome, ShowsOneOf}

pub want_shows : (e : Error) → IsOutOfMemory e → Shows memory_refused e
want_shows e is = subst (Shows memory_refused) (sym is) (record { kind = refl; source = refl })

-- an error shows the refusal that it was made of, wherever it is passed on
pub refusal_shown : (r : Result Answer Error) (e : Error) (P : Outcome → Type 0) → IsErrAnd r (λ f. f ≡ e)
    → (refusal : Refusal) → Shows refusal e → P (Err refusal) → ShowsOneOf r P
refusal_shown (Ok answer) e P passed refusal shows holds = absurd passed
refusal_shown (Err f) e P passed refusal shows holds =
    (refusal, subst (Shows refusal) (sym passed) shows, holds)

pub want_shown : (r : Result Answer Error) (e : Error) (P : Outcome → Type 0) → IsErrAnd r (λ f. f ≡ e)
    → IsOutOfMemory e → P out_of_memory → ShowsOneOf r P
want_shown r e P passed is holds = refusal_shown r e P passed memory_refused (want_shows e is) holds

-- a want of memory that was passed on
pub want_passed : (r : Result Answer Error) (P : Outcome → Type 0) → IsErrAnd r IsOutOfMemory → P out_of_memory
    → ShowsOneOf r P
want_passed (Ok answer) P is holds = absurd is
want_passed (Err e) P is holds = (memory_refused, want_shows e is, holds)

-- what is shown is one outcome
pub shown_outcome : (r : Result Answer Error) (P : Outcome → Type 0) → ShowsOneOf r P
    → (outcome : Outcome) × ShowsOutcome r outcome × P outcome
shown_outcome (Ok answer) P holds = (_, refl, holds)
shown_outcome (Err e) P (refusal, shows, holds) = (Err refusal, (refusal, shows, refl), holds)

-- what a weighing refuses, or want of memory for its text
pub weighing_refused : (r : Result Answer Error) (e : Error) (state : State) (weighing : Weighing) (left right : List ℕ)
    (into : Option (List ℕ)) (given : Result Bool Refusal) → IsErrAnd r (λ f. f ≡ e) → IsErr given → Refuses given e
    → weighed weighing (form_at state left) (form_at state right) ≡ truth_told given
    → ShowsOneOf r (λ outcome. IsStep state (record { request = weigh weighing left right; into = into }) outcome state)
weighing_refused r e state weighing left right into (Ok b) passed is refuses told = absurd (cc)
weighing_refused r e state weighing left right into (Err refusal) passed is (inl shows) told =
    refusal_shown r e _ passed refusal shows (inl (sym told, refl))
weighing_refused r e state weighing left right into (Err refusal) passed is (inr want) told =
    want_shown r e _ passed want (inr (subst IsErr (sym told) refl, refl, refl))

-- what is refused did not succeed
pub not_refused : {X E : Type 0} (r : Result X E) (e : E) → r ≡ Err e → IsOk r → ⊥
not_refused (Ok x) e is ok = let none : true ≡ false = ap is_ok is in absurd (false≢true (sym none))
not_refused (Err f) e is ok = absurd (false≢true ok)

-- what takes no memory where this does not hold was refused where it holds
pub refused_where : {X E : Type 0} (b : Bool) (r : Result X E) (e : E) → r ≡ Err e → (b ≡ false → IsOk r) → IsTrue b
refused_where true r e is free = refl
refused_where false r e is free = absurd (not_refused r e is (free refl))

-- an answer that is given where a call succeeds is refused where it does not
pub not_given : {X : Type 0} (given : Result X Refusal) (r : Result X Error) (e : Error) → r ≡ Err e
    → (IsOk given → IsOk r) → IsErr given
not_given (Ok x) r e is succeeds = let none : false ≡ true = ap is_ok (sym is) ∙ succeeds refl in absurd (false≢true none)
not_given (Err refusal) r e is succeeds = refl
