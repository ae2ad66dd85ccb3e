-- What passes and what breaks, by its writes.
use Rattle.std.proofs.Common.{◌≡◌, ◌≢◌, ℕ, ◌-◌, ◌^◌, ◌<◌, true, List, [], ◌∷◌, ◌++◌, length, refl, ap, ◌∙◌}
use Rattle.std.proofs.Common.{append-nil, length-append, arith, rules, IsTrue, Result, Ok, Err}
use Rattle.std.proofs.Math.Bool.{or-false}
use Rattle.std.proofs.lemmas.Bool.Decides.{nat_tests}
use Rattle.std.specs.IoError.{error_kind}
use Rattle.std.specs.List.{AllByRecursion}
use Rattle.std.specs.Prelude.{IsErrAnd, MatchResult}
use Rattle.std.specs.declared.io.Error.{Error}
use Rattle.std.specs.declared.io.ErrorKind.TheVariants.{Interrupted}
use Rattle.tera_report.specs.Writer.{Attempt, is_fault, bytes_taken, all_taken, GoesOn, Stops, Passes, Breaks}
use Rattle.tera_report.specs.inner.WriterLaws.{once, passes_joined}

pub some_length : (bytes : List ℕ) → bytes ≢ [] → 0 < length bytes
some_length [] some = absurd (some refl)
some_length (x ∷ bytes) some = omega arith

fault_of_none : (bytes : List ℕ) → bytes ≢ [] → is_fault {E = Error} (Ok 0) bytes ≡ true
fault_of_none [] some = absurd (some refl)
fault_of_none (x ∷ bytes) some = search rules

-- a fault after which more is written was interrupted
interrupted_if : (answer : Result ℕ Error) (given : List ℕ) → MatchResult answer (λ taken. 0 < taken) (λ e. error_kind e ≡ Interrupted)
    → IsTrue (is_fault answer given) → IsErrAnd answer (λ e. error_kind e ≡ Interrupted)
interrupted_if (Ok n) given on fault = absurd (grind (arith, nat_tests))
interrupted_if (Err e) given on fault = on

pub only_interrupted : (attempts : List Attempt) → AllByRecursion GoesOn attempts
    → AllByRecursion (λ a. IsTrue (is_fault a.answer a.given) → IsErrAnd a.answer (λ e. error_kind e ≡ Interrupted)) attempts
only_interrupted [] steady = tt
only_interrupted (a ∷ attempts) (on, steady) = (interrupted_if a.answer a.given on, only_interrupted attempts steady)

-- a write after which no more is written is a fault
stops_by_fault : (answer : Result ℕ Error) (given : List ℕ)
    → MatchResult answer (λ taken. (taken ≡ 0) × (given ≢ [])) (λ e. error_kind e ≢ Interrupted) → is_fault answer given ≡ true
stops_by_fault (Ok n) given (none, some) = ap (λ n. is_fault {E = Error} (Ok n) given) none ∙ fault_of_none given some
stops_by_fault (Err e) given other = refl

part_is_short : (part rest all : List ℕ) → part ++ rest ≡ all → rest ≢ [] → length part < length all
part_is_short part rest all whole some = omega (arith, ap length whole, length-append part rest, some_length rest some)

module _ {W : Type 0} (wrote : W → List ℕ → Result ℕ Error → W → Type 0) where
  pub faults_of_passed : (old : W) (bytes : List ℕ) (new : W) (passed : Passes wrote old bytes new)
      → AllByRecursion (λ a. IsTrue (is_fault a.answer a.given) → IsErrAnd a.answer (λ e. error_kind e ≡ Interrupted)) passed.attempts
  faults_of_passed old bytes new passed = only_interrupted passed.attempts passed.steady

  pub broke_short : (old : W) (bytes : List ℕ) (new : W) (broke : Breaks wrote old bytes new) → length (all_taken broke.attempts) < length bytes
  broke_short old bytes new broke = part_is_short (all_taken broke.attempts) broke.rest bytes broke.part broke.left

  pub broke_by_fault : (old : W) (bytes : List ℕ) (new : W) (broke : Breaks wrote old bytes new) → length broke.attempts < 2 ^ 64 - 1
      → IsTrue (is_fault broke.last.answer broke.last.given)
  broke_by_fault old bytes new broke few = stops_by_fault broke.last.answer broke.last.given (broke.stops few)

  breaks_once : (old : W) (bytes : List ℕ) (answer : Result ℕ Error) (new : W) → bytes ≢ [] → wrote old bytes answer new
      → bytes_taken answer bytes ≡ [] → Stops (record { given = bytes; answer = answer }) → Breaks wrote old bytes new
  breaks_once old bytes answer new some one none stops = record {
    attempts = once bytes answer;
    calls = (new, one, refl);
    fault = or-false (is_fault answer bytes) ∙ stops_by_fault answer bytes stops;
    rest = bytes;
    part = ap (λ l. l ++ bytes) (append-nil (bytes_taken answer bytes) ∙ none);
    left = some;
    before = [];
    last = record { given = bytes; answer = answer };
    ended = refl;
    steady = tt;
    stops = λ few. stops;
  }

  pub breaks_on_none : (old : W) (bytes : List ℕ) (new : W) → bytes ≢ [] → wrote old bytes (Ok 0) new → Breaks wrote old bytes new
  breaks_on_none old bytes new some one = breaks_once old bytes (Ok 0) new some one refl (refl, some)

  pub breaks_on_error : (old : W) (bytes : List ℕ) (e : Error) (new : W) → bytes ≢ [] → error_kind e ≢ Interrupted
      → wrote old bytes (Err e) new → Breaks wrote old bytes new
  breaks_on_error old bytes e new some other one = breaks_once old bytes (Err e) new some one refl other

  pub passes_again : (old : W) (bytes : List ℕ) (e : Error) (mid new : W) → error_kind e ≡ Interrupted → wrote old bytes (Err e) mid
      → Passes wrote mid bytes new → Passes wrote old bytes new
  passes_again old bytes e mid new interrupted one passed =
      let first : Passes wrote old [] mid = record { attempts = once bytes (Err e); calls = (mid, one, refl); whole = refl; steady = (interrupted, tt) } in
      passes_joined wrote old [] mid bytes new first passed
