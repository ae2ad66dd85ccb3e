-- What is written of a form spells it.
use Rattle.std.proofs.Common.{◌≡◌, suc, ℕ, Bool, true, false, List, [], ◌∷◌, ◌++◌, map, Some, None, cond, refl, ap, sym, subst, ◌∙◌, append_assoc, append-nil}
use Rattle.std.proofs.Common.{ap₂}
use Rattle.std.specs.Prelude.{max}
use Rattle.std.specs.List.{AllByRecursion}
use Rattle.tera_script.proofs.Literals.{one_value}
use Rattle.tera_meaning.specs.Form.{Form, MarkedText}
use Rattle.tera_meaning.specs.Integer.{Integer}
use Rattle.tera_meaning.specs.KeyMeaning.{KeyForm, truth_key, number_key, text_key, key_text, key_meaning, key_order}
use Rattle.tera_meaning.specs.Tree.{Items, Members, undefined, none, truth, number, text, bytes, array, object, no_items, item, no_members, member}
use Rattle.tera_meaning.specs.Tree.{relabeled_items, relabeled_members, depth, items_depth, members_depth, members, members_list}
use Rattle.tera_meaning.specs.Pairs.{HasDistinctKeys, key_form_order, put_all, value_at}
use Rattle.tera_meaning.proofs.KeyLaws.{form_total}
use Rattle.tera_meaning.proofs.PutLaws.{put_last, distinct_read}
use Rattle.tera_meaning.proofs.TreeLaws.{members_of_list}
use Rattle.std.specs.Map.{keys_of}
use Rattle.std.specs.Ordering.{on, eq_by_cmp}
use Rattle.std.specs.Cmp.{eq_by_cmp_equiv}
use Rattle.std.proofs.lemmas.Map.Keys.{IsDistinct-head, IsDistinct-tail}
use Rattle.tera_meaning.specs.Printed.{printed_truth}
use Rattle.tera_meaning.specs.WellMade.{IsWellMade, AreWellMade, AreWellMadeMembers, IsWellMadeKey}
use Rattle.tera_script.specs.Literal.{SpellsTruth, SpellsKey, SpellsTree, SpellsItems, SpellsMore, SpellsPairs, SpellsMorePairs, IsPadded, IsPair}
use Rattle.tera_script.specs.Literal.{SpellsLiteral, mark_of, in_places, tree_value, item_values, pair_values}
use Rattle.tera_script.specs.Written.{bytes_literal, inside, key_literal, literal_of, items_literal, more_literal, pairs_literal, more_pairs_literal}
use Rattle.tera_script.specs.Written.{owned_key, owned_form}
use Rattle.tera_script.proofs.WrittenTexts.{number_spelled, bytes_spelled, text_spelled}

-- ---- trees

truth_spelled : (b : Bool) → SpellsTruth (printed_truth b) b
truth_spelled true = refl
truth_spelled false = refl

key_spelled : (ascii : Bool) (k : KeyForm) → IsWellMadeKey k → SpellsKey (key_literal ascii k) (owned_key k)
key_spelled ascii (truth_key b) h = truth_spelled b
key_spelled ascii (number_key n) h = number_spelled n.kind n.value h
key_spelled ascii (text_key t) h = (inside ascii (key_text t), text_spelled ascii (key_text t) h, refl)

bare : (P : List ℕ → Type 0) (l : List ℕ) → P l → IsPadded P l
bare P l p = ([], l, [], refl, p, refl, sym (append-nil l))

spaced : (P : List ℕ → Type 0) (l : List ℕ) → P l → IsPadded P (32 ∷ l)
spaced P l p = (32 ∷ [], l, [], refl, p, refl, ap (λ m. 32 ∷ m) (sym (append-nil l)))

mutual
  pub tree_spelled : (ascii : Bool) (x : Form) → IsWellMade x → SpellsTree (literal_of ascii x) (owned_form x)
  tree_spelled ascii undefined h = refl
  tree_spelled ascii none h = refl
  tree_spelled ascii (truth b) h = truth_spelled b
  tree_spelled ascii (number n) h = number_spelled n.kind n.value h
  tree_spelled ascii (text t) h =
      (inside ascii t.spelled, text_spelled ascii t.spelled h, sym (append_assoc (mark_of t.safe) (34 ∷ inside ascii t.spelled) (34 ∷ [])))
  tree_spelled ascii (bytes bs) h = (bytes_literal bs, bytes_spelled bs h, refl)
  tree_spelled ascii (array xs) h = (items_literal ascii xs, items_spelled ascii xs h, refl)
  tree_spelled ascii (object ps) h = (pairs_literal ascii ps, pairs_spelled ascii ps h.1, refl)

  items_spelled : (ascii : Bool) (xs : Items Integer MarkedText KeyForm) → AreWellMade xs
      → SpellsItems (items_literal ascii xs) (relabeled_items (λ n. n) (λ t. t) owned_key xs)
  items_spelled ascii no_items h = refl
  items_spelled ascii (item x xs) h =
      (literal_of ascii x, more_literal ascii xs, bare (λ l. SpellsTree l (owned_form x)) _ (tree_spelled ascii x h.0), more_spelled ascii xs h.1, refl)

  more_spelled : (ascii : Bool) (xs : Items Integer MarkedText KeyForm) → AreWellMade xs
      → SpellsMore (more_literal ascii xs) (relabeled_items (λ n. n) (λ t. t) owned_key xs)
  more_spelled ascii no_items h = refl
  more_spelled ascii (item x xs) h =
      (32 ∷ literal_of ascii x, more_literal ascii xs, spaced (λ l. SpellsTree l (owned_form x)) _ (tree_spelled ascii x h.0), more_spelled ascii xs h.1, refl)

  pairs_spelled : (ascii : Bool) (ps : Members Integer MarkedText KeyForm) → AreWellMadeMembers ps
      → SpellsPairs (pairs_literal ascii ps) (relabeled_members (λ n. n) (λ t. t) owned_key ps)
  pairs_spelled ascii no_members h = refl
  pairs_spelled ascii (member k x ps) h =
      let key = key_literal ascii k in
      let value = literal_of ascii x in
      let pair : IsPair (λ l. SpellsKey l (owned_key k)) (λ l. SpellsTree l (owned_form x)) (key ++ 58 ∷ 32 ∷ value) = (
        key,
        32 ∷ value,
        bare (λ l. SpellsKey l (owned_key k)) key (key_spelled ascii k h.0),
        spaced (λ l. SpellsTree l (owned_form x)) value (tree_spelled ascii x h.1),
        refl,
      ) in (
        key ++ 58 ∷ 32 ∷ value,
        more_pairs_literal ascii ps,
        pair,
        more_pairs_spelled ascii ps h.2,
        sym (append_assoc key (58 ∷ 32 ∷ value) (more_pairs_literal ascii ps)),
      )

  more_pairs_spelled : (ascii : Bool) (ps : Members Integer MarkedText KeyForm) → AreWellMadeMembers ps
      → SpellsMorePairs (more_pairs_literal ascii ps) (relabeled_members (λ n. n) (λ t. t) owned_key ps)
  more_pairs_spelled ascii no_members h = refl
  more_pairs_spelled ascii (member k x ps) h =
      let key = key_literal ascii k in
      let value = literal_of ascii x in
      let pair : IsPair (λ l. SpellsKey l (owned_key k)) (λ l. SpellsTree l (owned_form x)) ((32 ∷ key) ++ 58 ∷ 32 ∷ value) = (
        32 ∷ key,
        32 ∷ value,
        spaced (λ l. SpellsKey l (owned_key k)) key (key_spelled ascii k h.0),
        spaced (λ l. SpellsTree l (owned_form x)) value (tree_spelled ascii x h.1),
        refl,
      ) in (
        (32 ∷ key) ++ 58 ∷ 32 ∷ value,
        more_pairs_literal ascii ps,
        pair,
        more_pairs_spelled ascii ps h.2,
        ap (λ l. 44 ∷ 32 ∷ l) (sym (append_assoc key (58 ∷ 32 ∷ value) (more_pairs_literal ascii ps))),
      )

-- ---- values

mutual
  pub same_depth : (x : Form) → depth (owned_form x) ≡ depth x
  same_depth undefined = refl
  same_depth none = refl
  same_depth (truth b) = refl
  same_depth (number n) = refl
  same_depth (text t) = refl
  same_depth (bytes bs) = refl
  same_depth (array xs) = ap suc (same_items_depth xs)
  same_depth (object ps) = ap suc (same_members_depth ps)

  same_items_depth : (xs : Items Integer MarkedText KeyForm) → items_depth (relabeled_items (λ n. n) (λ t. t) owned_key xs) ≡ items_depth xs
  same_items_depth no_items = refl
  same_items_depth (item x xs) = ap₂ max (same_depth x) (same_items_depth xs)

  same_members_depth : (ps : Members Integer MarkedText KeyForm) → members_depth (relabeled_members (λ n. n) (λ t. t) owned_key ps) ≡ members_depth ps
  same_members_depth no_members = refl
  same_members_depth (member k x ps) = ap₂ max (same_depth x) (same_members_depth ps)

-- a key means the same where it owns its text
same_meaning : (k : KeyForm) → key_meaning (owned_key k) ≡ key_meaning k
same_meaning (truth_key b) = refl
same_meaning (number_key n) = refl
same_meaning (text_key t) = refl

same_order : key_form_order ≡ on owned_key key_form_order
same_order i k l = key_order (sym (same_meaning k) i) (sym (same_meaning l) i)

owned_distinct : (ps : List (KeyForm × Form)) → HasDistinctKeys key_form_order ps
    → HasDistinctKeys key_form_order (map (λ p. (owned_key p.0, owned_form p.1)) ps)
owned_distinct ps h = distinct_read owned_key owned_form key_form_order ps (subst (λ o. HasDistinctKeys o ps) same_order h)

-- what holds of all keys holds of one of them
at_seam : (P : KeyForm → Type 0) (ps : List (KeyForm × Form)) (p : KeyForm × Form) (qs : List (KeyForm × Form))
    → AllByRecursion P (keys_of (ps ++ (p ∷ qs))) → P p.0
at_seam P [] p qs all = all.0
at_seam P (q ∷ ps) p qs all = at_seam P ps p qs all.1

-- a key that is apart from those before it finds none of them
none_found : (ps : List (KeyForm × Form)) (k : KeyForm) → AllByRecursion (λ j. eq_by_cmp key_form_order j k ≡ false) (keys_of ps)
    → value_at key_form_order ps k ≡ None
none_found [] k apart = refl
none_found (q ∷ ps) k apart =
    ap (λ ties. cond ties (Some q.1) (value_at key_form_order ps k)) ((eq_by_cmp_equiv form_total).symm k q.0 ∙ apart.0)
    ∙ none_found ps k apart.1

apart_before : (ps : List (KeyForm × Form)) (p : KeyForm × Form) (qs : List (KeyForm × Form)) → HasDistinctKeys key_form_order (ps ++ (p ∷ qs))
    → AllByRecursion (λ j. eq_by_cmp key_form_order j p.0 ≡ false) (keys_of ps)
apart_before [] p qs distinct = tt
apart_before (q ∷ ps) p qs distinct =
    let eq = eq_by_cmp key_form_order in
    let behind = keys_of (ps ++ (p ∷ qs)) in (
      at_seam (λ j. eq q.0 j ≡ false) ps p qs (IsDistinct-head eq q.0 behind distinct),
      apart_before ps p qs (IsDistinct-tail eq q.0 behind distinct),
    )

-- pairs whose keys are apart stand in their places
placed : (whole before left : List (KeyForm × Form)) → before ++ left ≡ whole → HasDistinctKeys key_form_order whole
    → put_all key_form_order before left ≡ whole
placed whole before [] is distinct = sym (append-nil before) ∙ is
placed whole before (p ∷ left) is distinct =
    let apart = apart_before before p left (subst (HasDistinctKeys key_form_order) (sym is) distinct) in
    ap (λ all. put_all key_form_order all left) (put_last key_form_order before p.0 p.1 (none_found before p.0 apart))
    ∙ placed whole (before ++ (p ∷ [])) left (append_assoc before (p ∷ []) left ∙ is) distinct

listed : (ps : Members Integer MarkedText KeyForm) → members_list (relabeled_members (λ n. n) (λ t. t) owned_key ps)
    ≡ map (λ p. (owned_key p.0, owned_form p.1)) (members_list ps)
listed no_members = refl
listed (member k x ps) = ap (λ l. (owned_key k, owned_form x) ∷ l) (listed ps)

mutual
  -- no pair of a well-made form shadows another
  pub same_value : (x : Form) → IsWellMade x → tree_value (owned_form x) ≡ owned_form x
  same_value undefined h = refl
  same_value none h = refl
  same_value (truth b) h = refl
  same_value (number n) h = refl
  same_value (text t) h = refl
  same_value (bytes bs) h = refl
  same_value (array xs) h = ap array (same_items xs h)
  same_value (object ps) h =
      let qs = relabeled_members (λ n. n) (λ t. t) owned_key ps in
      let apart = subst (HasDistinctKeys key_form_order) (sym (listed ps)) (owned_distinct (members_list ps) h.0) in
      let placed_all = placed (members_list qs) [] (members_list qs) refl apart in
      ap (λ l. object (members l)) (ap in_places (same_pairs ps h.1) ∙ placed_all) ∙ ap object (members_of_list qs)

  same_items : (xs : Items Integer MarkedText KeyForm) → AreWellMade xs
      → item_values (relabeled_items (λ n. n) (λ t. t) owned_key xs) ≡ relabeled_items (λ n. n) (λ t. t) owned_key xs
  same_items no_items h = refl
  same_items (item x xs) h = ap₂ item (same_value x h.0) (same_items xs h.1)

  same_pairs : (ps : Members Integer MarkedText KeyForm) → AreWellMadeMembers ps
      → pair_values (relabeled_members (λ n. n) (λ t. t) owned_key ps) ≡ members_list (relabeled_members (λ n. n) (λ t. t) owned_key ps)
  same_pairs no_members h = refl
  same_pairs (member k x ps) h = ap₂ (λ v l. (owned_key k, v) ∷ l) (same_value x h.1) (same_pairs ps h.2)

pub literal_spelled : (ascii : Bool) (x : Form) → IsWellMade x → SpellsLiteral (literal_of ascii x) (owned_form x)
literal_spelled ascii x h = (owned_form x, tree_spelled ascii x h, sym (same_value x h))

pub one_form : (ascii : Bool) (x y : Form) → IsWellMade x → IsWellMade y → literal_of ascii x ≡ literal_of ascii y → owned_form x ≡ owned_form y
one_form ascii x y h k same =
    one_value (literal_of ascii x) (owned_form x) (owned_form y) (literal_spelled ascii x h)
    (subst (λ l. SpellsLiteral l (owned_form y)) (sym same) (literal_spelled ascii y k))
