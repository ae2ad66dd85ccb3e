-- Writes in turn, one stretch after another.
use Rattle.std.specs.Prelude.{◌≡◌, ◌≢◌, ℕ, ◌||◌, List, [], ◌∷◌, ◌++◌, IsTrue, Result}
use Rattle.std.specs.Prelude.{Bool, true, false, refl}
use Rattle.std.proofs.Common.{◌∙◌, ap, sym, subst, append_assoc, append-nil, arith, length-append}
use Rattle.std.proofs.Math.Bool.{or_assoc, or-false}
use Rattle.std.proofs.lemmas.List.Concat.{flat_map-append}
use Rattle.std.specs.declared.io.Error.{Error}
use Rattle.std.specs.List.{AllByRecursion, FoldsTo}
use Rattle.tera_report.specs.Writer.{Attempt, is_fault, bytes_taken, all_taken, has_fault}
use Rattle.tera_report.specs.Writer.{Tries, Passes, Breaks}

-- one write alone
abbrev pub once : List ℕ → Result ℕ Error → List Attempt
once bytes answer = record { given = bytes; answer = answer } ∷ []

-- some turns, and then some more
pub folds_joined : {P A : Type 0} (R : P → A → P → Type 0) (p : P) (xs : List A) (q : P)
    (ys : List A) (u : P)
    → FoldsTo R p xs q → FoldsTo R q ys u → FoldsTo R p (xs ++ ys) u
folds_joined {P} R p [] q ys u f g = subst (λ (x : P). FoldsTo R x ys u) (sym f) g
folds_joined R p (x ∷ xs) q ys u (j, first, f) g = (j, first, folds_joined R j xs q ys u f g)

-- what some writes took, and then some more
pub taken_joined : (xs ys : List Attempt) → all_taken (xs ++ ys) ≡ all_taken xs ++ all_taken ys
taken_joined xs ys = flat_map-append (λ a. bytes_taken a.answer a.given) xs ys

pub taken_more : (xs : List Attempt) (bytes : List ℕ) (answer : Result ℕ Error)
    → all_taken (xs ++ once bytes answer) ≡ all_taken xs ++ bytes_taken answer bytes
taken_more xs bytes answer =
    taken_joined xs (once bytes answer)
    ∙ ap (λ l. all_taken xs ++ l) (append-nil (bytes_taken answer bytes))

pub or_later : (a b : Bool) → IsTrue b → IsTrue (a || b)
or_later true b h = refl
or_later false b h = h

pub faults_joined : (xs ys : List Attempt) → has_fault (xs ++ ys) ≡ (has_fault xs || has_fault ys)
faults_joined [] ys = refl
faults_joined (x ∷ xs) ys =
    ap (λ b. is_fault x.answer x.given || b) (faults_joined xs ys)
    ∙ sym (or_assoc (is_fault x.answer x.given) (has_fault xs) (has_fault ys))

pub faults_more : (xs : List Attempt) (bytes : List ℕ) (answer : Result ℕ Error)
    → has_fault (xs ++ once bytes answer) ≡ (has_fault xs || is_fault answer bytes)
faults_more xs bytes answer =
    faults_joined xs (once bytes answer)
    ∙ ap (λ b. has_fault xs || b) (or-false (is_fault answer bytes))

-- what holds of some writes and of some more holds of all
pub all_joined : (P : Attempt → Type 0) (xs ys : List Attempt) → AllByRecursion P xs
    → AllByRecursion P ys → AllByRecursion P (xs ++ ys)
all_joined P [] ys p q = q
all_joined P (x ∷ xs) ys (first, p) q = (first, all_joined P xs ys p q)

-- some bytes, and maybe more behind them
pub some_more : (rest b : List ℕ) → rest ≢ [] → rest ++ b ≢ []
some_more [] b some e = some refl
some_more (x ∷ rest) b some e = absurd (cc)

module _ {W : Type 0} (wrote : W → List ℕ → Result ℕ Error → W → Type 0) where
  pub tries_joined : (w : W) (xs : List Attempt) (v : W) (ys : List Attempt) (u : W)
      → Tries wrote w xs v → Tries wrote v ys u → Tries wrote w (xs ++ ys) u
  tries_joined w xs v ys u p q = folds_joined _ w xs v ys u p q

  pub tries_more : (w : W) (xs : List Attempt) (v : W) (bytes : List ℕ) (answer : Result ℕ Error)
      (u : W)
      → Tries wrote w xs v → wrote v bytes answer u → Tries wrote w (xs ++ once bytes answer) u
  tries_more w xs v bytes answer u p q = tries_joined w xs v (once bytes answer) u p (u, q, refl)

  abbrev pub passes_nothing : (w : W) → Passes wrote w [] w
  passes_nothing w = record { attempts = []; calls = refl; whole = refl; steady = tt }

  abbrev pub passes_joined : (w : W) (a : List ℕ) (v : W) (b : List ℕ) (u : W)
      → Passes wrote w a v → Passes wrote v b u → Passes wrote w (a ++ b) u
  passes_joined w a v b u p q = record {
    attempts = p.attempts ++ q.attempts;
    calls = tries_joined w p.attempts v q.attempts u p.calls q.calls;
    whole = taken_joined p.attempts q.attempts ∙ (λ i. p.whole i ++ q.whole i);
    steady = all_joined _ p.attempts q.attempts p.steady q.steady;
  }

  abbrev pub breaks_early : (w : W) (a : List ℕ) (v : W) (b : List ℕ) → Breaks wrote w a v
      → Breaks wrote w (a ++ b) v
  breaks_early w a v b p = record {
    attempts = p.attempts;
    calls = p.calls;
    fault = p.fault;
    rest = p.rest ++ b;
    part = sym (append_assoc (all_taken p.attempts) p.rest b) ∙ ap (λ l. l ++ b) p.part;
    left = some_more p.rest b p.left;
    before = p.before;
    last = p.last;
    ended = p.ended;
    steady = p.steady;
    stops = p.stops;
  }

  abbrev pub breaks_later : (w : W) (a : List ℕ) (v : W) (b : List ℕ) (u : W)
      → Passes wrote w a v → Breaks wrote v b u → Breaks wrote w (a ++ b) u
  breaks_later w a v b u p q = record {
    attempts = p.attempts ++ q.attempts;
    calls = tries_joined w p.attempts v q.attempts u p.calls q.calls;
    fault = subst IsTrue (sym (faults_joined p.attempts q.attempts))
        (or_later (has_fault p.attempts) (has_fault q.attempts) q.fault);
    rest = q.rest;
    part =
        ap (λ l. l ++ q.rest) (taken_joined p.attempts q.attempts)
        ∙ append_assoc (all_taken p.attempts) (all_taken q.attempts) q.rest
        ∙ (λ i. p.whole i ++ q.part i);
    left = q.left;
    before = p.attempts ++ q.before;
    last = q.last;
    ended =
        ap (λ l. p.attempts ++ l) q.ended
        ∙ sym (append_assoc p.attempts q.before (q.last ∷ []));
    steady = all_joined _ p.attempts q.before p.steady q.steady;
    stops = λ few. q.stops (omega (arith, length-append p.attempts q.attempts, few));
  }
