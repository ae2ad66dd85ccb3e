-- What several writes of a watched writer did, one after another.
use Rattle.std.proofs.Common.{◌≡◌, ◌≢◌, ℕ, ◌+◌, ◌-◌, ◌^◌, ◌<◌, ◌≤◌, true, ◌||◌, IsTrue, List, [], ◌∷◌, ◌++◌, length, take, drop, refl, sym, ap, subst, ◌∙◌}
use Rattle.std.proofs.Common.{append_assoc, append-nil, take-append-drop, arith, length-drop, Option, Result, Ok}
use Rattle.std.proofs.Math.Bool.{or_assoc, or-false}
use Rattle.std.proofs.lemmas.List.{take_rest}
use Rattle.std.proofs.KnownBytes.{Appends-nil, Appends-trans}
use Rattle.std.specs.Io.KnownBytes.{Appends}
use Rattle.std.specs.List.{AllByRecursion}
use Rattle.std.specs.declared.io.Error.{Error}
use Rattle.tera_report.specs.Watch.{has_failed, held, SameWriter, watched_writer, WatchedTakes, WatchedFails}
use Rattle.tera_report.specs.Writer.{Attempt, is_fault, bytes_taken, all_taken, has_fault, GoesOn, Stops, Tries}
use Rattle.tera_report.specs.inner.WriterLaws.{once, tries_more, taken_more, faults_more, or_later}
use Rattle.tera_report.specs.declared.watch.Watched.{Watched}

-- what a slice from n on holds
pub split_later : (done rest all : List ℕ) (n : ℕ) → done ++ rest ≡ all → (done ++ take n rest) ++ take (length rest - n) (drop n rest) ≡ all
split_later done rest all n e =
    ap (λ l. (done ++ take n rest) ++ l) (take_rest rest n) ∙ append_assoc done (take n rest) (drop n rest)
    ∙ ap (λ l. done ++ l) (take-append-drop n rest) ∙ e

pub turn_took_one : (rest : List ℕ) (turn n most : ℕ) → n ≢ 0 → n ≤ length rest → turn + length rest ≤ most
    → turn + 1 + length (take (length rest - n) (drop n rest)) ≤ most
turn_took_one rest turn n most some fits before =
    rw (take_rest rest n) (rw (length-drop n rest) (omega arith))

-- these writes led from old to new, which remembers a fault of them
pub record Tried {W : Type 0} (contents : W → Option (List ℕ)) (wrote : W → List ℕ → Result ℕ Error → W → Type 0) (old : Watched W)
    (attempts : List Attempt) (new : Watched W) : Type 0 where
  pub calls : Tries wrote (watched_writer old) attempts (watched_writer new)
  pub grows : Appends (held contents old) (held contents new) (all_taken attempts)
  pub same : SameWriter old new
  pub told : has_failed new ≡ (has_failed old || has_fault attempts)

module _ {W : Type 0} (contents : W → Option (List ℕ)) (wrote : W → List ℕ → Result ℕ Error → W → Type 0) (old : Watched W) where
  pub none_tried : Tried contents wrote old [] old
  none_tried = record { calls = refl; grows = Appends-nil _; same = refl; told = sym (or-false _) }

  module _ (new : Watched W) (attempts : List Attempt) (buf : List ℕ) (h : Tried contents wrote old attempts new) where
    pub tried_takes : AllByRecursion GoesOn attempts → all_taken attempts ≡ buf → WatchedTakes contents wrote old buf new
    tried_takes steady is = record {
      same = h.same;
      grows = subst (Appends _ _) is h.grows;
      passed = record { attempts = attempts; calls = h.calls; whole = is; steady = steady };
      told = h.told;
    }

    pub tried_fails : IsTrue (has_fault attempts) → (rest : List ℕ) → all_taken attempts ++ rest ≡ buf → rest ≢ []
        → (before : List Attempt) (last : Attempt) → attempts ≡ before ++ last ∷ [] → AllByRecursion GoesOn before
        → (length attempts < 2 ^ 64 - 1 → Stops last) → WatchedFails contents wrote old buf new
    tried_fails fault rest part left before last ended steady stops = record {
      same = h.same;
      told = subst IsTrue (sym h.told) (or_later _ _ fault);
      broke =
          record {
            attempts = attempts;
            calls = h.calls;
            fault = fault;
            rest = rest;
            part = part;
            left = left;
            before = before;
            last = last;
            ended = ended;
            steady = steady;
            stops = stops;
          };
      grows = h.grows;
    }

  -- one more write, of the bytes that are left
  module _ (mid new : Watched W) (attempts : List Attempt) (rest : List ℕ) (answer : Result ℕ Error) (h : Tried contents wrote old attempts mid)
      (one : wrote (watched_writer mid) rest answer (watched_writer new)) (more : Appends (held contents mid) (held contents new) (bytes_taken answer rest))
      (same : SameWriter mid new) (told : has_failed new ≡ (has_failed mid || is_fault answer rest)) where
    pub one_more : Tried contents wrote old (attempts ++ once rest answer) new
    one_more = record {
      calls = tries_more wrote _ attempts _ rest answer _ h.calls one;
      grows = subst (Appends _ _) (sym (taken_more attempts rest answer)) (Appends-trans _ _ _ _ _ h.grows more);
      same = same ∙ h.same;
      told = told ∙ ap (λ b. b || is_fault answer rest) h.told ∙ or_assoc (has_failed old) (has_fault attempts) (is_fault answer rest)
          ∙ ap (λ b. has_failed old || b) (sym (faults_more attempts rest answer));
    }

    -- it failed, and took nothing
    pub failed_here : (buf : List ℕ) → all_taken attempts ++ rest ≡ buf → is_fault answer rest ≡ true → bytes_taken answer rest ≡ []
        → rest ≢ [] → AllByRecursion GoesOn attempts → Stops (record { given = rest; answer = answer }) → WatchedFails contents wrote old buf new
    failed_here buf split fault none left steady stops =
        let nothing = taken_more attempts rest answer ∙ ap (λ l. all_taken attempts ++ l) none ∙ append-nil (all_taken attempts) in
        tried_fails new (attempts ++ once rest answer) buf one_more (subst IsTrue (sym (faults_more attempts rest answer)) (or_later _ _ fault)) rest
        (ap (λ l. l ++ rest) nothing ∙ split) left attempts (record { given = rest; answer = answer }) refl steady (λ few. stops)

-- bytes of which none can be taken without a fault
pub some_if_fault : (bytes : List ℕ) → is_fault {E = Error} (Ok 0) bytes ≡ true → bytes ≢ []
some_if_fault [] fault none = absurd (cc)
some_if_fault (x ∷ bytes) fault none = absurd (cc)

-- the last of some writes, and those before it
pub last_of : (first : Attempt) (later : List Attempt) → AllByRecursion GoesOn (first ∷ later)
    → (before : List Attempt) × (last : Attempt) × (first ∷ later ≡ before ++ last ∷ []) × AllByRecursion GoesOn before
last_of first [] steady = ([], first, refl, tt)
last_of first (x ∷ later) (one, steady) =
    let (before, last, is, all) = last_of x later steady in
    (first ∷ before, last, ap (λ l. first ∷ l) is, (one, all))

-- the last of so many writes, and those before it
pub ended_late : (attempts : List Attempt) → 2 ^ 64 - 1 ≤ length attempts → AllByRecursion GoesOn attempts
    → (before : List Attempt) × (last : Attempt) × (attempts ≡ before ++ last ∷ []) × AllByRecursion GoesOn before
ended_late [] late steady = absurd (omega (arith, late))
ended_late (x ∷ later) late steady = last_of x later steady
