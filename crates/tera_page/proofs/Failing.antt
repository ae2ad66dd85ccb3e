-- Why there is no page, which what stands around passes on.
use Rattle.std.specs.Prelude.{◌≡◌, ◌++◌, ℕ, Bool, true, false, List, [], ◌∷◌, length, nat_eq, not, None, Result, Ok, Err, refl}
use Rattle.std.proofs.Common.{ap, inl, inr, rules, subst, sym, ◌∙◌}
use Rattle.std.proofs.lemmas.List.{append-nil}
use Rattle.tera.specs.Arithmetic.{and_then}
use Rattle.tera.specs.Errors.{IsOutOfMemory, Refuses, States, kind_of, refusal_of}
use Rattle.tera.specs.Refusal.{Refusal, stated}
use Rattle.tera.specs.State.{State}
use Rattle.tera.specs.types.Error.{Error}
use Rattle.tera_page.specs.Failures.{Fails, Reports, ReportsAt}
use Rattle.tera_page.specs.Rendering.{Failure, Grows, Names, Pieces, each, on, placed, repeated, turns}
use Rattle.tera_page.specs.Template.{Written}
use Rattle.tera_page.specs.declared.failure.Failure as code

-- memory may be wanted whatever is to be given
pub fails_want : {X : Type 0} (r : Result X Failure) (f : code.Failure) → IsOutOfMemory f.error → Fails r f
fails_want (Ok x) f is = is
fails_want (Err failure) f is = inl is

module _ {X Y : Type 0} where
  -- what fails first
  pub fails_on : (r : Result X Failure) (next : X → Result Y Failure) (f : code.Failure) → Fails r f → Fails (on r next) f
  fails_on (Ok x) next f is = fails_want (next x) f is
  fails_on (Err failure) next f is = is

  pub placed_on : (w : Written) (r : Result X Refusal) (next : X → Result Y Refusal) (f : code.Failure) → Fails (placed w r) f
      → Fails (placed w (and_then r next)) f
  placed_on w (Ok x) next f is = fails_want (placed w (next x)) f is
  placed_on w (Err refusal) next f is = is

-- the error of a refusal, at its place
pub fails_at : {X : Type 0} (w : Written) (r : Result X Refusal) (e : Error) (f : code.Failure) → f.error ≡ e → f.from.now ≡ w.from → Refuses r e
    → Fails (placed w r) f
fails_at w (Ok x) e f error from is = error ∙ is
fails_at w (Err refusal) e f error from (inl states) = inr (subst (States (stated refusal) None) (sym error) states, from)
fails_at w (Err refusal) e f error from (inr want) = inl (error ∙ want)

module _ (body otherwise : State → Pieces) (state : State) where
  -- what is repeated, where there are turns, and where there are none
  pub some_turns : (all : List Names) → true ≡ not (nat_eq (length all) 0) → repeated body otherwise state all ≡ each body (turns state all)
  some_turns [] some = absurd (cc)
  some_turns (own ∷ all) some = refl

  pub no_turns : (all : List Names) (old mid : List ℕ) → false ≡ not (nat_eq (length all) 0) → Grows (each body (turns state all)) old mid
      → (repeated body otherwise state all ≡ otherwise state) × (mid ≡ old)
  no_turns [] old mid none (shown, page, grows) = (refl, grows ∙ ap (λ l. old ++ l) page ∙ append-nil old)
  no_turns (own ∷ all) old mid none grows = absurd (search (rules, none))

  pub repeated_fails : (all : List Names) (failed : code.Failure) → Fails (each body (turns state all)) failed
      → Fails (repeated body otherwise state all) failed
  repeated_fails [] failed is = fails_want (otherwise state) failed is
  repeated_fails (own ∷ all) failed is = is

module _ (file source : List ℕ) where
  -- want of memory is no report
  pub reports_want : (pieces : Pieces) (e : Error) → IsOutOfMemory e → Reports file source pieces e
  reports_want (Ok ps) e is = is
  reports_want (Err failure) e is = inl is

  -- the report of what failed, where that is no want of memory
  pub reports_failed : (pieces : Pieces) (failed : code.Failure) (e : Error) (want : Bool) → want ≡ false → (IsOutOfMemory failed.error → want ≡ true)
      → Fails pieces failed → ReportsAt file source failed.from.now (refusal_of (kind_of failed.error)) e → Reports file source pieces e
  reports_failed (Ok ps) failed e want wants_none told fails report = absurd (cc (wants_none, told fails))
  reports_failed (Err failure) failed e want wants_none told (inl fails) report = absurd (cc (wants_none, told fails))
  reports_failed (Err failure) failed e want wants_none told (inr (states, from)) report =
      inr (subst (λ r. ReportsAt file source failure.from r e) states.kind
      (subst (λ l. ReportsAt file source l (refusal_of (kind_of failed.error)) e) from report))
