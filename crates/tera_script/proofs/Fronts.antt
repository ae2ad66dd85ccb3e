-- The bytes at the front that pass a test, and those behind them.
use Rattle.std.proofs.Common.{◌≡◌, ◌≢◌, ◌+◌, Option, Some, None, ◌-◌, ◌≤◌, ℕ, Bool, true, false, List, [], ◌∷◌, ◌++◌, length, take, drop, refl, ap, sym, ◌∙◌}
use Rattle.std.proofs.Common.{arith, append_assoc, length-append}
use Rattle.std.proofs.lemmas.List.{take_at, drop_at}
use Rattle.std.proofs.lemmas.Option.{some_pair_parts}
use Rattle.std.proofs.lemmas.Str.{encode_ascii}
use Rattle.std.specs.Borrow.{Bor}
use Rattle.std.specs.List.{AllByRecursion, list_all}
use Rattle.std.specs.Prelude.{◌==◌, MatchOption}
use Rattle.std.specs.Cmp.Lexicographic.{pointwise}
use Rattle.std.proofs.lemmas.Slice.Eq.{strip_prefix_is}
use Rattle.std.proofs.lemmas.Bool.Decides.{nat_tests, Decides-eqb}
use Rattle.tera_script.specs.Word.{is_blank}
use Rattle.tera_script.specs.Readers.{Stops, front, past, is_word_byte, behind}

abbrev pub head : List ℕ → ℕ
head [] = 0
head (b ∷ xs) = b

abbrev pub tail : List ℕ → List ℕ
tail [] = []
tail (b ∷ xs) = xs

module _ (p : ℕ → Bool) where
  pub front-past : (xs : List ℕ) → front p xs ++ past p xs ≡ xs
  front-past [] = refl
  front-past (b ∷ xs) = grind (arith, front-past xs)

  -- each byte of the front passes, and the one behind it does not
  pub front_all : (xs : List ℕ) → list_all p (front p xs) ≡ true
  front_all [] = refl
  front_all (b ∷ xs) = grind (arith, front_all xs)

  pub past_stops : (xs : List ℕ) → Stops p (past p xs)
  past_stops [] = tt
  past_stops (b ∷ xs) = grind (arith, past_stops xs)

  -- bytes that pass, before bytes that do not begin with one that does, are the front
  pub front_is : (xs ys : List ℕ) → list_all p xs ≡ true → Stops p ys → front p (xs ++ ys) ≡ xs
  front_is [] [] h s = refl
  front_is [] (y ∷ ys) h s = rw s refl
  front_is (b ∷ xs) ys h s = grind (arith, front_is xs ys)

  pub past_is : (xs ys : List ℕ) → list_all p xs ≡ true → Stops p ys → past p (xs ++ ys) ≡ ys
  past_is [] [] h s = refl
  past_is [] (y ∷ ys) h s = rw s refl
  past_is (b ∷ xs) ys h s = grind (arith, past_is xs ys)

  -- where the bytes are cut before those behind the front
  pub length-past : (xs : List ℕ) → length (past p xs) ≤ length xs
  length-past xs = omega (arith, ap length (front-past xs), length-append (front p xs) (past p xs))

  pub past_cut : (xs : List ℕ) → (past p xs ≡ past p xs) × (length (past p xs) ≤ length xs) × (take (length xs - length (past p xs)) xs ≡ front p xs)
      × (drop (length xs - length (past p xs)) xs ≡ past p xs)
  past_cut xs =
      let n = length xs - length (past p xs) in
      let is : length (front p xs) ≡ n = omega (arith, ap length (front-past xs), length-append (front p xs) (past p xs)) in (
        refl,
        length-past xs,
        ap (take n) (sym (front-past xs)) ∙ take_at (front p xs) (past p xs) n is,
        ap (drop n) (sym (front-past xs)) ∙ drop_at (front p xs) (past p xs) n is,
      )

  pub front_cut : (xs ys : List ℕ) → past p xs ≡ ys → xs ≡ front p xs ++ ys
  front_cut xs ys h = sym (front-past xs) ∙ ap (λ zs. front p xs ++ zs) h

-- the bytes of an ASCII character
pub ruleset ascii = (encode_ascii)

-- some bytes, and then those that were read
pub behind_nothing : (read : Option (List ℕ × List ℕ)) → behind [] read ≡ read
behind_nothing read = grind arith

pub behind_both : (xs ys : List ℕ) (read : Option (List ℕ × List ℕ)) → behind xs (behind ys read) ≡ behind (xs ++ ys) read
behind_both xs ys read = grind (arith, append_assoc {A = ℕ})

pub behind_found : (front' : List ℕ) (read : Option (List ℕ × List ℕ)) (t rest : List ℕ) → behind front' read ≡ Some (t, rest)
    → (u : List ℕ) × (read ≡ Some (u, rest)) × (t ≡ front' ++ u)
behind_found front' None t rest e = cc
behind_found front' (Some (u, r)) t rest e = let same = some_pair_parts (front' ++ u) t r rest e in (u, (λ i. Some (u, same.1 i)), sym same.0)

-- a byte of no word ends one, behind blanks too
pub bracket_or_comma : (xs : List ℕ) (b : ℕ) (rest : List ℕ) → past is_blank xs ≡ b ∷ rest → is_word_byte b ≡ false → Stops is_word_byte xs
bracket_or_comma xs b rest e n = grind (arith, nat_tests)

-- the bytes behind a prefix, or that it is none
module _ (s : List ℕ) {p q : List ℕ} {r : Option (Bor (List ℕ))}
    (cases : MatchOption r (pointwise ◌==◌ (take (length p) s) p ≡ false)
    (λ x. (pointwise ◌==◌ (take (length p) s) p ≡ true) × (x.now ≡ drop (length p) s) × (length x.now + length p ≡ length s)))
    (e : p ≡ q)
  where
    pub no_prefix : r ≡ None → (rest : List ℕ) → s ≢ q ++ rest
    no_prefix n = rw (n, e) at (strip_prefix_is Decides-eqb s p r cases)

    pub behind_prefix : {x : Bor (List ℕ)} → r ≡ Some x → s ≡ q ++ x.now
    behind_prefix n = rw (n, e) at (strip_prefix_is Decides-eqb s p r cases)

-- what holds of each byte holds of those at the front, and of those behind them
pub all_front : (P : ℕ → Type 0) (xs ys : List ℕ) → AllByRecursion P (xs ++ ys) → AllByRecursion P xs
all_front P [] ys h = tt
all_front P (x ∷ xs) ys h = (h.0, all_front P xs ys h.1)

pub all_behind : (P : ℕ → Type 0) (xs ys : List ℕ) → AllByRecursion P (xs ++ ys) → AllByRecursion P ys
all_behind P [] ys h = h
all_behind P (x ∷ xs) ys h = all_behind P xs ys h.1
