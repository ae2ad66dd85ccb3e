-- What is printed by rule prints an exact layout as it is, and each layout somehow.
use Rattle.std.specs.Prelude.{ℤ, codes, IsTrue}
use Rattle.std.proofs.Common.{◌≡◌, ℕ, List, [], ◌++◌, refl, sym, ap, subst, ◌∙◌}
use Rattle.std.proofs.lemmas.Bool.{and_parts}
use Rattle.tera_report.specs.Quoted.{quoted}
use Rattle.tera_report.proofs.QuoteLaws.{one_quoting, quotes_by_rule}
use Rattle.tera_meaning.specs.KeyMeaning.{KeyMeaning, truth_key, number_key, text_key}
use Rattle.tera_meaning.specs.Meaning.{Layout}
use Rattle.tera_meaning.specs.Printed.{printed, printed_key, printed_with, printed_items, more_items, printed_members, more_members}
use Rattle.tera_meaning.specs.Printed.{is_exact_key, is_exact_inside, are_exact_items, are_exact_members, IsExact, IsExactInside, IsExactKey}
use Rattle.tera_meaning.specs.Quoted.{PrintsKey, PrintsItems, PrintsMembers, Prints, PrintsInside}
use Rattle.tera_meaning.specs.Tree.{Items, Members, undefined, none, truth, number, text, bytes, array, object, no_items, item, no_members, member}

-- what is printed of items and of pairs, behind a lead
abbrev led_items : List ℕ → Items ℤ (List ℕ) KeyMeaning → List ℕ
led_items lead no_items = []
led_items lead (item x xs) = lead ++ (printed_with quoted x ++ more_items xs)

abbrev led_members : List ℕ → Members ℤ (List ℕ) KeyMeaning → List ℕ
led_members lead no_members = []
led_members lead (member k x ps) = lead ++ (printed_key k ++ codes ": " ++ printed_with quoted x ++ more_members ps)

first_items : (xs : Items ℤ (List ℕ) KeyMeaning) → led_items [] xs ≡ printed_items xs
first_items no_items = refl
first_items (item x xs) = refl

other_items : (xs : Items ℤ (List ℕ) KeyMeaning) → led_items (codes ", ") xs ≡ more_items xs
other_items no_items = refl
other_items (item x xs) = refl

first_members : (ps : Members ℤ (List ℕ) KeyMeaning) → led_members [] ps ≡ printed_members ps
first_members no_members = refl
first_members (member k x ps) = refl

other_members : (ps : Members ℤ (List ℕ) KeyMeaning) → led_members (codes ", ") ps ≡ more_members ps
other_members no_members = refl
other_members (member k x ps) = refl

-- ---- an exact layout prints one text

pub key_exact : (k : KeyMeaning) (written : List ℕ) → IsExactKey k → PrintsKey k written → written ≡ printed_key k
key_exact (truth_key b) written exact prints = prints
key_exact (number_key z) written exact prints = prints
key_exact (text_key t) written exact prints = one_quoting t written exact prints

mutual
  pub inside_exact : (x : Layout) (written : List ℕ) → IsExactInside x → PrintsInside x written → written ≡ printed_with quoted x
  inside_exact undefined written exact prints = prints
  inside_exact none written exact prints = prints
  inside_exact (truth b) written exact prints = prints
  inside_exact (number z) written exact prints = prints
  inside_exact (text t) written exact prints = one_quoting t written exact prints
  inside_exact (bytes bs) written exact prints = prints
  inside_exact (array xs) written exact (inner, prints, is) =
      is ∙ ap (λ l. codes "[" ++ l ++ codes "]") (items_exact [] xs inner exact prints ∙ first_items xs)
  inside_exact (object ps) written exact (inner, prints, is) =
      is ∙ ap (λ l. codes "{" ++ l ++ codes "}") (members_exact [] ps inner exact prints ∙ first_members ps)

  items_exact : (lead : List ℕ) (xs : Items ℤ (List ℕ) KeyMeaning) (written : List ℕ) → IsTrue (are_exact_items xs) → PrintsItems lead xs written
      → written ≡ led_items lead xs
  items_exact lead no_items written exact prints = prints
  items_exact lead (item x xs) written exact (first, others, one, rest, is) =
      let parts = and_parts (is_exact_inside x) (are_exact_items xs) exact in
      let a = inside_exact x first parts.0 one in
      let b = items_exact (codes ", ") xs others parts.1 rest ∙ other_items xs in
      is ∙ (λ i. lead ++ (a i ++ b i))

  members_exact : (lead : List ℕ) (ps : Members ℤ (List ℕ) KeyMeaning) (written : List ℕ) → IsTrue (are_exact_members ps)
      → PrintsMembers lead ps written → written ≡ led_members lead ps
  members_exact lead no_members written exact prints = prints
  members_exact lead (member k x ps) written exact (key, value, others, named, one, rest, is) =
      let parts = and_parts (is_exact_key k) _ exact in
      let behind = and_parts (is_exact_inside x) (are_exact_members ps) parts.1 in
      let a = key_exact k key parts.0 named in
      let b = inside_exact x value behind.0 one in
      let d = members_exact (codes ", ") ps others behind.1 rest ∙ other_members ps in
      is ∙ (λ i. lead ++ (a i ++ codes ": " ++ b i ++ d i))

pub alone_exact : (x : Layout) (written : List ℕ) → IsExact x → Prints x written → written ≡ printed x
alone_exact undefined written exact prints = prints
alone_exact none written exact prints = prints
alone_exact (truth b) written exact prints = prints
alone_exact (number z) written exact prints = prints
alone_exact (text t) written exact prints = prints
alone_exact (bytes bs) written exact prints = prints
alone_exact (array xs) written exact prints = inside_exact (array xs) written exact prints
alone_exact (object ps) written exact prints = inside_exact (object ps) written exact prints

-- equal layouts print one text, where they are exact
pub alone_alike : (x y : Layout) (written other : List ℕ) → x ≡ y → IsExact x → Prints x written → Prints y other → written ≡ other
alone_alike x y written other e exact prints also =
    alone_exact x written exact prints ∙ ap printed e ∙ sym (alone_exact y other (subst IsExact e exact) also)

pub inside_alike : (x y : Layout) (written other : List ℕ) → x ≡ y → IsExactInside x → PrintsInside x written → PrintsInside y other
    → written ≡ other
inside_alike x y written other e exact prints also =
    inside_exact x written exact prints ∙ ap (printed_with quoted) e ∙ sym (inside_exact y other (subst IsExactInside e exact) also)

-- ---- each layout prints a text

pub key_prints : (k : KeyMeaning) → PrintsKey k (printed_key k)
key_prints (truth_key b) = refl
key_prints (number_key z) = refl
key_prints (text_key t) = quotes_by_rule t

mutual
  pub inside_prints : (x : Layout) → PrintsInside x (printed_with quoted x)
  inside_prints undefined = refl
  inside_prints none = refl
  inside_prints (truth b) = refl
  inside_prints (number z) = refl
  inside_prints (text t) = quotes_by_rule t
  inside_prints (bytes bs) = refl
  inside_prints (array xs) = (printed_items xs, subst (PrintsItems [] xs) (first_items xs) (items_print [] xs), refl)
  inside_prints (object ps) = (printed_members ps, subst (PrintsMembers [] ps) (first_members ps) (members_print [] ps), refl)

  items_print : (lead : List ℕ) (xs : Items ℤ (List ℕ) KeyMeaning) → PrintsItems lead xs (led_items lead xs)
  items_print lead no_items = refl
  items_print lead (item x xs) =
      (printed_with quoted x, more_items xs, inside_prints x, subst (PrintsItems (codes ", ") xs) (other_items xs) (items_print (codes ", ") xs), refl)

  members_print : (lead : List ℕ) (ps : Members ℤ (List ℕ) KeyMeaning) → PrintsMembers lead ps (led_members lead ps)
  members_print lead no_members = refl
  members_print lead (member k x ps) = (
    printed_key k,
    printed_with quoted x,
    more_members ps,
    key_prints k,
    inside_prints x,
    subst (PrintsMembers (codes ", ") ps) (other_members ps) (members_print (codes ", ") ps),
    refl,
  )

pub alone_prints : (x : Layout) → Prints x (printed x)
alone_prints undefined = refl
alone_prints none = refl
alone_prints (truth b) = refl
alone_prints (number z) = refl
alone_prints (text t) = refl
alone_prints (bytes bs) = refl
alone_prints (array xs) = inside_prints (array xs)
alone_prints (object ps) = inside_prints (object ps)

pub ruleset laws = (key_exact, inside_exact, alone_exact, key_prints, inside_prints, alone_prints, inside_alike, alone_alike)
