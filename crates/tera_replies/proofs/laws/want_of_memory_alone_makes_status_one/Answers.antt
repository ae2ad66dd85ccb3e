-- Which outcomes make the status 1.
use Rattle.std.specs.Prelude.{◌≡◌, ◌≢◌, ℕ, Bool, true, false, List, [], ◌∷◌, Ok, Err, cond, refl}
use Rattle.std.proofs.Common.{ap, sym, ◌∙◌, arith}
use Rattle.std.proofs.lemmas.Bool.{or_parts}
use Rattle.tera_report.specs.Refusal.{memory_refused}
use Rattle.tera_meaning.specs.{Outcome.Outcome, Outcome.out_of_memory, Outcome.is_want, Run.NoneWantsMemory}
use Rattle.tera_replies.specs.Replay.{wants_memory}
use Rattle.tera_replies.proofs.laws.want_of_memory_alone_makes_status_one.Goals as goal

not_want : (outcome : Outcome) → outcome ≢ out_of_memory → is_want outcome ≡ false
not_want (Ok answer) other = refl
not_want (Err memory_refused) other = absurd (other refl)
not_want (Err refusal) other = refl

none_wanted : (outcomes : List Outcome) → NoneWantsMemory outcomes → wants_memory outcomes ≡ false
none_wanted [] others = refl
none_wanted (outcome ∷ outcomes) others = rw (not_want outcome others.0) (none_wanted outcomes others.1)

none_wants : (outcomes : List Outcome) → wants_memory outcomes ≡ false → NoneWantsMemory outcomes
none_wants [] h = tt
none_wants (outcome ∷ outcomes) h =
    let each = or_parts (is_want outcome) (wants_memory outcomes) h in
    ((λ is. let wanted = sym (ap is_want is) ∙ each.0 in absurd (cc)), none_wants outcomes each.1)

not_one : (wanted : Bool) → ◌≡◌ {A = ℕ} (cond wanted 1 0) 0 → wanted ≡ false
not_one true h = absurd (omega arith)
not_one false h = refl

pub returns-clause-every : goal.returns-clause-every
returns-clause-every c outcomes = (
  (λ zero. none_wants outcomes (not_one (wants_memory outcomes) zero)),
  (λ none. ap (λ (w : Bool). let status : ℕ = cond w 1 0 in status) (none_wanted outcomes none)),
)
