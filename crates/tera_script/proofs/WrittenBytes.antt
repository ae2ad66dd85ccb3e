-- Which bytes are written.
use Rattle.std.proofs.Common.{◌≡◌, ◌<◌, ◌≤◌, ◌==◌, ◌&&◌, suc, ℕ, ℤ, pos, negsuc, Bool, true, false, List, [], ◌∷◌, ◌++◌, Option, Some, None, nat_lt, refl}
use Rattle.std.proofs.Common.{sym, subst, arith, append-nil, IsUtf8, ltb-true}
use lib.Utf8.{scalar, scalars, encode}
use Rattle.std.specs.Prelude.{flat_map, codes}
use Rattle.std.specs.Char.{digit_value}
use Rattle.std.specs.Fmt.{digits, decimal}
use Rattle.std.specs.List.{AllByRecursion, list_all}
use Rattle.std.specs.Str.{chars}
use Rattle.std.specs.Str.Parse.{AllDigits}
use Rattle.std.proofs.lemmas.Bool.{cond_both, and_parts}
use Rattle.std.proofs.lemmas.Fmt.{digits_is_IsNumeral}
use Rattle.std.proofs.lemmas.Str.{scalars-chars}
use Rattle.tera_meaning.specs.Form.{Form, MarkedText}
use Rattle.tera_meaning.specs.Integer.{IntegerKind, u64, i64, u128, i128, Integer, IsOfKind}
use Rattle.tera_meaning.specs.KeyMeaning.{KeyForm, truth_key, number_key, text_key, key_text}
use Rattle.tera_meaning.specs.Tree.{Items, Members, undefined, none, truth, number, text, bytes, array, object, no_items, item, no_members, member}
use Rattle.tera_meaning.specs.Printed.{printed_truth}
use Rattle.tera_meaning.specs.WellMade.{IsByte, IsWellMade, AreWellMade, AreWellMadeMembers, IsWellMadeKey}
use Rattle.tera_script.specs.Literal.{SpellsBytes, mark_of}
use Rattle.tera_script.specs.Number.{suffix_of}
use Rattle.tera_script.specs.Text.{Token, itself, character, spelling}
use Rattle.tera_script.specs.Written.{number_literal, bytes_literal, is_numbered, tokens_of, inside, key_literal, quoted_literal, literal_of, items_literal}
use Rattle.tera_script.specs.Written.{more_literal, pairs_literal, more_pairs_literal}
use Rattle.tera_script.proofs.WrittenTexts.{small_above, small_below, digit_range, below_all, spelled_themselves, bytes_spelled}

is_printing : ℕ → Bool
is_printing b = nat_lt 31 b && nat_lt b 127

-- what holds of each printing byte, of each character that stands for itself, and of what is joined
pub record Parts (ascii : Bool) (P : List ℕ → Type 0) : Type 0 where
  pub nothing : P []
  pub together : (a b : List ℕ) → P a → P b → P (a ++ b)
  pub printing : (b : ℕ) → 31 < b → b < 127 → P (b ∷ [])
  pub own : (c : ℕ) → scalar c ≡ true → is_numbered ascii c ≡ false → P (encode c)

module _ (ascii : Bool) (P : List ℕ → Type 0) (parts : Parts ascii P) where
  mark : (b : ℕ) (bs : List ℕ) → is_printing b ≡ true → P bs → P (b ∷ bs)
  unfolding is_printing
  mark b bs e p =
      let ends = and_parts _ _ e in
      parts.together (b ∷ []) bs (parts.printing b (ltb-true 31 b ends.0) (ltb-true b 127 ends.1)) p

  all_print : (bs : List ℕ) → list_all is_printing bs ≡ true → P bs
  all_print [] e = parts.nothing
  all_print (b ∷ bs) e = let p = and_parts _ _ e in mark b bs p.0 (all_print bs p.1)

  digits_print : (base : ℕ) (ds : List ℕ) → base ≤ 16 → AllDigits base ds → P ds
  digits_print base [] low h = parts.nothing
  digits_print base (d ∷ ds) low h =
      let small : digit_value d < 16 = omega (arith, h.0) in
      let range = digit_range d small in
      parts.together (d ∷ []) ds (parts.printing d range.0 range.1) (digits_print base ds low h.1)

  truth_has : (b : Bool) → P (printed_truth b)
  unfolding is_printing
  truth_has true = all_print (codes "true") refl
  truth_has false = all_print (codes "false") refl

  suffix_has : (s : Option IntegerKind) → P (suffix_of s)
  unfolding is_printing
  suffix_has None = parts.nothing
  suffix_has (Some u64) = all_print (codes "u64") refl
  suffix_has (Some i64) = all_print (codes "i64") refl
  suffix_has (Some u128) = all_print (codes "u128") refl
  suffix_has (Some i128) = all_print (codes "i128") refl

  number_has : (k : IntegerKind) (z : ℤ) → IsOfKind k z → P (number_literal (record { kind = k; value = z }))
  unfolding is_printing
  number_has k (pos n) h =
      let is = digits_is_IsNumeral 10 false (omega arith) (omega arith) n (small_above k n h) in
      parts.together (decimal n) _ (digits_print 10 (decimal n) (omega arith) is.0.1) (suffix_has _)
  number_has k (negsuc n) h =
      let is = digits_is_IsNumeral 10 false (omega arith) (omega arith) (suc n) (small_below k n h) in
      mark 45 _ refl (parts.together (decimal (suc n)) _ (digits_print 10 (decimal (suc n)) (omega arith) is.0.1) (suffix_has _))

  bytes_has : (bs : List ℕ) → AllByRecursion IsByte bs → P (bytes_literal bs)
  bytes_has bs h = spelled_has (bytes_literal bs) bs (bytes_spelled bs h)
    where
      spelled_has : (ds bs : List ℕ) → SpellsBytes ds bs → P ds
      spelled_has ds [] is = subst P (sym is) parts.nothing
      spelled_has ds (b ∷ bs) (high, low, rest, h, l, same, more, is) =
          let high' = digit_range high h in
          let low' = digit_range low l in
          subst P (sym is) (parts.together (high ∷ []) (low ∷ rest) (parts.printing high high'.0 high'.1)
          (parts.together (low ∷ []) rest (parts.printing low low'.0 low'.1) (spelled_has rest bs more)))

  Has : List Token → Type 0
  Has tokens = P (flat_map spelling tokens)

  char_has : (c : ℕ) → scalar c ≡ true → P (flat_map spelling (tokens_of ascii c))
  unfolding is_printing Has
  char_has c ok =
      cond_both (c == 34) _ _ Has (λ _. all_print (codes "\\\"") refl) (λ _.
      cond_both (c == 92) _ _ Has (λ _. all_print (codes "\\\\") refl) (λ _.
      cond_both (c == 10) _ _ Has (λ _. all_print (codes "\\n") refl) (λ _.
      cond_both (c == 13) _ _ Has (λ _. all_print (codes "\\r") refl) (λ _.
      cond_both (c == 9) _ _ Has (λ _. all_print (codes "\\t") refl) (λ _.
      cond_both (c == 0) _ _ Has (λ _. all_print (codes "\\0") refl) (λ _.
      cond_both (is_numbered ascii c) _ _ Has (λ _. code_has c ok) (λ e. subst P (sym (spelled_themselves (encode c))) (parts.own c ok e))))))))
    where
      code_has : (c : ℕ) → scalar c ≡ true → P (spelling (character (digits 16 false c)) ++ [])
      code_has c ok =
          let below = below_all c ok in
          let is = digits_is_IsNumeral 16 false (omega arith) (omega arith) c (omega arith) in
          subst P (sym (append-nil _)) (parts.together (codes "\\u{") _ (all_print (codes "\\u{") refl)
          (parts.together (digits 16 false c) (codes "}") (digits_print 16 (digits 16 false c) (omega arith) is.0.1) (all_print (codes "}") refl)))

  chars_have : (cs : List ℕ) → scalars cs ≡ true → P (flat_map (λ c. flat_map spelling (tokens_of ascii c)) cs)
  chars_have [] ok = parts.nothing
  chars_have (c ∷ cs) ok = let p = and_parts _ _ ok in parts.together _ _ (char_has c p.0) (chars_have cs p.1)

  quoted_has : (t : List ℕ) → IsUtf8 t → P (quoted_literal ascii t)
  unfolding is_printing
  quoted_has t u = mark 34 _ refl (parts.together (inside ascii t) _ (chars_have (chars t) (scalars-chars t u)) (all_print (34 ∷ []) refl))

  mark_has : (b : Bool) → P (mark_of b)
  unfolding is_printing
  mark_has true = all_print (codes "s") refl
  mark_has false = parts.nothing

  key_has : (k : KeyForm) → IsWellMadeKey k → P (key_literal ascii k)
  key_has (truth_key b) h = truth_has b
  key_has (number_key n) h = number_has n.kind n.value h
  key_has (text_key t) h = quoted_has (key_text t) h

  mutual
    unfolding is_printing

    pub literal_has : (x : Form) → IsWellMade x → P (literal_of ascii x)
    literal_has undefined h = all_print (codes "undefined") refl
    literal_has none h = all_print (codes "none") refl
    literal_has (truth b) h = truth_has b
    literal_has (number n) h = number_has n.kind n.value h
    literal_has (text t) h = parts.together (mark_of t.safe) _ (mark_has t.safe) (quoted_has t.spelled h)
    literal_has (bytes bs) h = parts.together (codes "x\"") _ (all_print (codes "x\"") refl)
        (parts.together (bytes_literal bs) (codes "\"") (bytes_has bs h) (all_print (codes "\"") refl))
    literal_has (array xs) h = mark 91 _ refl (parts.together (items_literal ascii xs) _ (items_have xs h) (all_print (codes "]") refl))
    literal_has (object ps) h = mark 123 _ refl (parts.together (pairs_literal ascii ps) _ (pairs_have ps h.1) (all_print (codes "}") refl))

    items_have : (xs : Items Integer MarkedText KeyForm) → AreWellMade xs → P (items_literal ascii xs)
    items_have no_items h = parts.nothing
    items_have (item x xs) h = parts.together (literal_of ascii x) _ (literal_has x h.0) (more_have xs h.1)

    more_have : (xs : Items Integer MarkedText KeyForm) → AreWellMade xs → P (more_literal ascii xs)
    more_have no_items h = parts.nothing
    more_have (item x xs) h = mark 44 _ refl (mark 32 _ refl (parts.together (literal_of ascii x) _ (literal_has x h.0) (more_have xs h.1)))

    pairs_have : (ps : Members Integer MarkedText KeyForm) → AreWellMadeMembers ps → P (pairs_literal ascii ps)
    pairs_have no_members h = parts.nothing
    pairs_have (member k x ps) h = parts.together (key_literal ascii k) _ (key_has k h.0)
        (mark 58 _ refl (mark 32 _ refl (parts.together (literal_of ascii x) _ (literal_has x h.1) (more_pairs_have ps h.2))))

    more_pairs_have : (ps : Members Integer MarkedText KeyForm) → AreWellMadeMembers ps → P (more_pairs_literal ascii ps)
    more_pairs_have no_members h = parts.nothing
    more_pairs_have (member k x ps) h = mark 44 _ refl (mark 32 _ refl (parts.together (key_literal ascii k) _ (key_has k h.0)
        (mark 58 _ refl (mark 32 _ refl (parts.together (literal_of ascii x) _ (literal_has x h.1) (more_pairs_have ps h.2))))))
