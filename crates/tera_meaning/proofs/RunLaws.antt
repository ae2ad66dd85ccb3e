-- Runs in which what is refused changes nothing.
use Rattle.std.specs.Prelude.{◌≡◌, ℕ, List, [], ◌∷◌, Option, Some, None, Ok, Err, OnErr, refl}
use Rattle.std.proofs.Common.{sym, subst}
use Rattle.tera_meaning.specs.Outcome.{Outcome}
use Rattle.tera_meaning.specs.Request.{Request, ask, weigh, find, Command}
use Rattle.tera_meaning.specs.Run.{IsKeepingRun, IsRun, IsAmpleRun}
use Rattle.tera_meaning.specs.Search.{Found, found_at}
use Rattle.tera_meaning.specs.State.{State}
use Rattle.tera_meaning.specs.Step.{ComesTo, found_or_kept, keeping, leaves}
use Rattle.tera_meaning.proofs.RunLemmas.{given_step}

-- what is refused leaves the state as it was, but where it wants memory
not_kept : (into : Option (List ℕ)) (found : Found) (state : State) → OnErr (found_or_kept into found) (keeping state into found ≡ state)
not_kept None (Ok value) state = tt
not_kept None (Err e) state = refl
not_kept (Some into) (Ok None) state = tt
not_kept (Some into) (Ok (Some value)) state = tt
not_kept (Some into) (Err e) state = refl

as_it_was : (outcome : Outcome) (state : State) → OnErr outcome (state ≡ state)
as_it_was (Ok answer) state = tt
as_it_was (Err e) state = refl

refused_keeps : (state : State) (request : Request) (into : Option (List ℕ)) (outcome : Outcome) → ComesTo state request into outcome
    → OnErr outcome (leaves state request into ≡ state)
refused_keeps state (ask question name) into outcome is = as_it_was outcome state
refused_keeps state (weigh weighing left right) into outcome is = as_it_was outcome state
refused_keeps state (find search) into outcome is =
    subst (λ o. OnErr o (keeping state into (found_at state search) ≡ state)) (sym is) (not_kept into (found_at state search) state)
refused_keeps state v into outcome is = subst (λ o. OnErr o (leaves state v into ≡ state)) (sym is) tt

pub keeping_run : (old : State) (commands : List Command) (outcomes : List Outcome) (new : State)
    → IsKeepingRun old commands outcomes new → IsRun old commands outcomes new
keeping_run old [] [] new is = is
keeping_run old (command ∷ commands) (outcome ∷ outcomes) new (mid, step, kept, run) = (mid, step, keeping_run mid commands outcomes new run)
keeping_run old commands outcomes new is = absurd is

pub ample_keeping : (old : State) (commands : List Command) (outcomes : List Outcome) (new : State)
    → IsAmpleRun old commands outcomes new → IsKeepingRun old commands outcomes new
ample_keeping old [] [] new (run, none) = run
ample_keeping old (command ∷ commands) (outcome ∷ outcomes) new ((mid, step, run), none) =
    let (is, left) = given_step old command outcome mid step none.0 in (
      mid,
      step,
      subst (λ state. OnErr outcome (state ≡ old)) (sym left) (refused_keeps old command.request command.into outcome is),
      ample_keeping mid commands outcomes new (run, none.1),
    )
ample_keeping old commands outcomes new (run, none) = absurd run

pub ruleset laws = (keeping_run, ample_keeping)
