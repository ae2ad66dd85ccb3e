-- No two keys of a map that is not refused are written alike.
use Rattle.std.specs.Prelude.{◌≡◌, ◌≢◌, ◌≤◌, ◌<◌, ◌^◌, ◌-◌, ◌==◌, ℕ, ℤ, pos, negsuc, suc, Bool, true, false, cond, List, [], ◌∷◌, drop, get_or}
use Rattle.std.specs.Prelude.{Option, Some, None, is_some, decimal, refl}
use Rattle.std.proofs.Common.{sym, ap, ◌∙◌, subst, arith}
use Rattle.std.proofs.lemmas.Bool.{true≢false}
use Rattle.std.proofs.lemmas.Fmt.{decimal_is_IsNumeral_wide}
use Rattle.std.proofs.lemmas.List.Elements.{All-from_recursion}
use Rattle.std.proofs.lemmas.List.Kept.{AllPairs-cons}
use Rattle.std.proofs.lemmas.Str.Parse.{digit_at, digit_from_value}
use Rattle.std.specs.Fmt.{signed_decimal}
use Rattle.std.specs.List.{AllByRecursion, IsDistinct}
use Rattle.std.specs.Map.{keys_of}
use Rattle.std.specs.Ordering.{eq_by_cmp}
use Rattle.std.specs.Str.Parse.{AllDigits, digits_value}
use Rattle.json.specs.Strict.{keys, AreDistinct, HasUniqueKeys, ItemsHaveUniqueKeys, MembersHaveUniqueKeys}
use Rattle.tera_json.specs.Misfits.{under}
use Rattle.tera_json.specs.Places.{item_step, name_step}
use Rattle.tera_json.specs.Written.{document_of, documents_of, members_of, name_of, has_text, key_misfits}
use Rattle.tera_json.specs.Written.{value_misfits, values_misfits, pairs_misfits}
use Rattle.tera_json.specs.declared.write.Lacking.{Lacking}
use Rattle.tera_json.proofs.Stops.{nil_front, nil_under, within_levels}
use Rattle.tera_json.proofs.Writing.{key_clash}
use Rattle.tera_meaning.proofs.KeyLaws.{key_is}
use Rattle.tera_meaning.specs.Form.{Form, MarkedText}
use Rattle.tera_meaning.specs.Integer.{Integer, IntegerKind, IsOfKind, IsWide, u64, i64, u128, i128}
use Rattle.tera_meaning.specs.KeyMeaning.{KeyForm, KeyText, truth_key, number_key, text_key, owned, borrowed, key_meaning, key_text}
use Rattle.tera_meaning.specs.Pairs.{key_form_order, value_at}
use Rattle.tera_meaning.specs.Printed.{printed_truth}
use Rattle.tera_meaning.specs.Tree.{Items, Members, undefined, none, truth, number, text, bytes, array, object}
use Rattle.tera_meaning.specs.Tree.{no_items, item, no_members, member, members_list}
use Rattle.tera_meaning.specs.WellMade.{IsWellMade, IsWellMadeKey, AreWellMade, AreWellMadeMembers}
use Rattle.tera_values.specs.Key.{text_in_key}

-- ---- numbers and truth values

naturals_apart : (m n : ℕ) → m < 10 ^ 64 → n < 10 ^ 64 → decimal m ≡ decimal n → m ≡ n
naturals_apart m n p q e = sym (decimal_is_IsNumeral_wide m p).1 ∙ ap (digits_value 10) e ∙ (decimal_is_IsNumeral_wide n q).1

no_minus : (n : ℕ) (ds : List ℕ) → n < 10 ^ 64 → decimal n ≡ 45 ∷ ds → ⊥
no_minus n ds h e = let k = digit_from_value 45 (subst (AllDigits 10) e (decimal_is_IsNumeral_wide n h).0.1).0 in omega (arith, k.0)

numbers_apart : (y z : ℤ) → IsWide y → IsWide z → signed_decimal y ≡ signed_decimal z → y ≡ z
numbers_apart (pos m) (pos n) p q e = ap pos (naturals_apart m n (omega (arith, p)) (omega (arith, q)) e)
numbers_apart (pos m) (negsuc n) p q e = absurd (no_minus m (decimal (suc n)) (omega (arith, p)) e)
numbers_apart (negsuc m) (pos n) p q e = absurd (no_minus n (decimal (suc m)) (omega (arith, q)) (sym e))
numbers_apart (negsuc m) (negsuc n) p q e =
    ap negsuc (omega (arith, naturals_apart (suc m) (suc n) (omega (arith, p)) (omega (arith, q)) (ap (drop 1) e)))

-- a number begins with a minus or a digit, and a truth value with a letter
number_begins : (z : ℤ) → IsWide z → get_or (signed_decimal z) 0 0 ≤ 57
number_begins (pos n) h = let k = decimal_is_IsNumeral_wide n (omega (arith, h)) in (digit_at (decimal n) 0 k.0.1 k.0.0).1
number_begins (negsuc n) h = omega arith

truth_apart : (b : Bool) (z : ℤ) → IsWide z → printed_truth b ≡ signed_decimal z → ⊥
truth_apart true z h e = omega (arith, number_begins z h, ap (λ x. get_or x 0 0) e)
truth_apart false z h e = omega (arith, number_begins z h, ap (λ x. get_or x 0 0) e)

kind_wide : (z : ℤ) (k : IntegerKind) → IsOfKind k z → IsWide z
kind_wide (pos n) u64 h = omega (arith, h)
kind_wide (negsuc n) u64 h = absurd h
kind_wide (pos n) i64 h = omega (arith, h)
kind_wide (negsuc n) i64 h = omega (arith, h)
kind_wide (pos n) u128 h = h
kind_wide (negsuc n) u128 h = absurd h
kind_wide (pos n) i128 h = omega (arith, h)
kind_wide (negsuc n) i128 h = h

truths_apart : (a b : Bool) → printed_truth a ≡ printed_truth b → a ≡ b
truths_apart true true e = refl
truths_apart true false e = cc
truths_apart false true e = cc
truths_apart false false e = refl

-- ---- keys

IsFound : List (KeyForm × Form) → KeyForm → Type 0
IsFound all k = is_some (value_at key_form_order all k) ≡ true

text_at : (all : List (KeyForm × Form)) (s : KeyText) → value_at key_form_order all (text_key s) ≡ value_at key_form_order all (text_key (owned (key_text s)))
text_at all (owned t) = refl
text_at all (borrowed t) = refl

-- a text that is a key leaves no other key its name
clash : (all : List (KeyForm × Form)) (s : KeyText) (l : KeyForm) → IsFound all (text_key s) → text_in_key l ≡ None → key_misfits all l ≡ []
    → key_text s ≡ name_of l → ⊥
unfolding IsFound
clash all s l found other fits e =
    let has : has_text all (name_of l) ≡ true =
    ap (λ t. is_some (value_at key_form_order all (text_key (owned t)))) (sym e) ∙ ap is_some (sym (text_at all s)) ∙ found in
    let never = sym (key_clash all l other has) ∙ fits in
    cc

apart_meet : (k l : KeyForm) → key_meaning k ≡ key_meaning l → eq_by_cmp key_form_order k l ≡ false → ⊥
apart_meet k l e apart = true≢false (sym ((key_is (key_meaning k) (key_meaning l)).1 e) ∙ apart)

names_apart : (all : List (KeyForm × Form)) (k l : KeyForm) → IsWellMadeKey k → IsWellMadeKey l → IsFound all k → IsFound all l
    → key_misfits all k ≡ [] → key_misfits all l ≡ [] → eq_by_cmp key_form_order k l ≡ false → name_of k ≡ name_of l → ⊥
names_apart all (text_key s) (text_key t) mk ml fk fl ck cl apart e = apart_meet (text_key s) (text_key t) (ap text_key e) apart
names_apart all (text_key s) (truth_key b) mk ml fk fl ck cl apart e = clash all s (truth_key b) fk refl cl e
names_apart all (text_key s) (number_key n) mk ml fk fl ck cl apart e = clash all s (number_key n) fk refl cl e
names_apart all (truth_key a) (text_key t) mk ml fk fl ck cl apart e = clash all t (truth_key a) fl refl ck (sym e)
names_apart all (number_key m) (text_key t) mk ml fk fl ck cl apart e = clash all t (number_key m) fl refl ck (sym e)
names_apart all (truth_key a) (truth_key b) mk ml fk fl ck cl apart e = apart_meet (truth_key a) (truth_key b) (ap truth_key (truths_apart a b e)) apart
names_apart all (truth_key a) (number_key n) mk ml fk fl ck cl apart e = truth_apart a n.value (kind_wide n.value n.kind ml) e
names_apart all (number_key m) (truth_key b) mk ml fk fl ck cl apart e = truth_apart b m.value (kind_wide m.value m.kind mk) (sym e)
names_apart all (number_key m) (number_key n) mk ml fk fl ck cl apart e =
    apart_meet (number_key m) (number_key n)
    (ap number_key (numbers_apart m.value n.value (kind_wide m.value m.kind mk) (kind_wide n.value n.kind ml) e)) apart

-- ---- pairs

EachFound : List (KeyForm × Form) → List (KeyForm × Form) → Type 0
EachFound all ps = AllByRecursion (IsFound all) (keys_of ps)

some_or : {A : Type 0} (b : Bool) (x : A) (o : Option A) → is_some o ≡ true → is_some (cond b (Some x) o) ≡ true
some_or true x o h = refl
some_or false x o h = h

wider : (q : KeyForm × Form) (all ps : List (KeyForm × Form)) → EachFound all ps → EachFound (q ∷ all) ps
unfolding EachFound IsFound
wider q all [] h = tt
wider q all (p ∷ ps) h = (some_or (eq_by_cmp key_form_order p.0 q.0) q.1 (value_at key_form_order all p.0) h.0, wider q all ps h.1)

each_found : (ps : List (KeyForm × Form)) → EachFound ps ps
unfolding EachFound IsFound
each_found [] = tt
each_found (p ∷ ps) = (
  ap (λ b. is_some (cond b (Some p.1) (value_at key_form_order ps p.0))) ((key_is (key_meaning p.0) (key_meaning p.0)).1 refl),
  wider p ps ps (each_found ps),
)

module _ (lacking : Lacking) where
  -- a key is written like none of these
  others_apart : (levels : ℕ) (all : List (KeyForm × Form)) (k : KeyForm) → IsWellMadeKey k → IsFound all k → key_misfits all k ≡ []
      → (ps : Members Integer MarkedText KeyForm) → EachFound all (members_list ps) → pairs_misfits lacking levels all ps ≡ [] → AreWellMadeMembers ps
      → AllByRecursion (λ y. eq_by_cmp key_form_order k y ≡ false) (keys_of (members_list ps)) → AllByRecursion (λ b. name_of k ≢ b) (keys (members_of ps))
  unfolding EachFound
  others_apart levels all k mk fk ck no_members found fits made apart = tt
  others_apart levels all k mk fk ck (member l x ps) found fits made apart =
      let parts = nil_front (key_misfits all l) _ fits in
      let rest = nil_front (under (name_step (name_of l)) (value_misfits lacking levels x)) _ parts.1 in (
        λ e. names_apart all k l mk made.0 fk found.0 ck parts.0 apart.0 e,
        others_apart levels all k mk fk ck ps found.1 rest.1 made.2 apart.1,
      )

  members_apart : (levels : ℕ) (all : List (KeyForm × Form)) (ps : Members Integer MarkedText KeyForm) → EachFound all (members_list ps)
      → pairs_misfits lacking levels all ps ≡ [] → AreWellMadeMembers ps → IsDistinct (eq_by_cmp key_form_order) (keys_of (members_list ps))
      → AreDistinct (keys (members_of ps))
  unfolding IsDistinct EachFound
  members_apart levels all no_members found fits made apart = λ i j d less within. absurd (omega (arith, within))
  members_apart levels all (member k x ps) found fits made apart =
      let parts = nil_front (key_misfits all k) _ fits in
      let rest = nil_front (under (name_step (name_of k)) (value_misfits lacking levels x)) _ parts.1 in
      AllPairs-cons (λ a b. a ≢ b) (name_of k) (keys (members_of ps))
      (All-from_recursion (λ b. name_of k ≢ b) (keys (members_of ps))
      (others_apart levels all k made.0 found.0 parts.0 ps found.1 rest.1 made.2 apart.0))
      (members_apart levels all ps found.1 rest.1 made.2 apart.1)

  mutual
    pub unique : (levels : ℕ) (v : Form) → IsWellMade v → value_misfits lacking levels v ≡ [] → HasUniqueKeys (document_of v)
    unique levels undefined made e = tt
    unique levels none made e = tt
    unique levels (truth b) made e = tt
    unique levels (number n) made e = tt
    unique levels (text t) made e = tt
    unique levels (bytes bs) made e = tt
    unique levels (array xs) made e = items_unique (levels - 1) 0 xs made (within_levels (levels == 0) _ e).1
    unique levels (object ps) made e =
        let fits = (within_levels (levels == 0) _ e).1 in (
          members_apart (levels - 1) (members_list ps) ps (each_found (members_list ps)) fits made.1 made.0,
          pairs_unique (levels - 1) (members_list ps) ps made.1 fits,
        )

    items_unique : (levels n : ℕ) (xs : Items Integer MarkedText KeyForm) → AreWellMade xs → values_misfits lacking levels n xs ≡ []
        → ItemsHaveUniqueKeys (documents_of xs)
    items_unique levels n no_items made e = tt
    items_unique levels n (item x xs) made e =
        let parts = nil_front (under (item_step n) (value_misfits lacking levels x)) _ e in
        (unique levels x made.0 (nil_under (item_step n) _ parts.0), items_unique levels (suc n) xs made.1 parts.1)

    pairs_unique : (levels : ℕ) (all : List (KeyForm × Form)) (ps : Members Integer MarkedText KeyForm) → AreWellMadeMembers ps
        → pairs_misfits lacking levels all ps ≡ [] → MembersHaveUniqueKeys (members_of ps)
    pairs_unique levels all no_members made e = tt
    pairs_unique levels all (member k x ps) made e =
        let parts = nil_front (key_misfits all k) _ e in
        let rest = nil_front (under (name_step (name_of k)) (value_misfits lacking levels x)) _ parts.1 in
        (unique levels x made.1 (nil_under (name_step (name_of k)) _ rest.0), pairs_unique levels all ps made.2 rest.1)
