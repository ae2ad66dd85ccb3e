-- The parts of a text, and the items that a value holds.
use Rattle.std.specs.Prelude.{◌≡◌, ℕ, ℤ, ◌⊎◌, ◌||◌, Bool, true, false, ◌++◌, [], ◌∷◌, ◌↔◌, List, Option, None, Ok, IfOk, IfSome, refl, unwrap_or}
use Rattle.std.proofs.Common.{inl, inr, ◌∙◌, ap, rules}
use Rattle.std.proofs.lemmas.Bool.{and_parts, eq-eqb, eqb-true}
use Rattle.std.specs.Option.{option_and_then, option_map, ok_or}
use Rattle.std.specs.Str.Iter.{HasSubslice}
use Rattle.tera_meaning.specs.Form.{Form}
use Rattle.tera_meaning.specs.KeyMeaning.{KeyForm}
use Rattle.tera_meaning.specs.Lookup.{begins_with, occurs, held_item, indexed, item, key_in, name_of, paired, part_at}
use Rattle.tera_meaning.specs.Pairs.{key_form_order, value_at}
use Rattle.tera_meaning.specs.Read.{number_in, text_in}
use Rattle.tera_meaning.specs.Tree.{undefined, text, array, object, items_list, members_list}
use Rattle.tera_report.specs.Refusal.{Container, in_array, not_a_map_key}

-- ---- a text that stands in another

begins_split : (bs part : List ℕ) → begins_with bs part ≡ true → (rest : List ℕ) × (bs ≡ part ++ rest)
begins_split bs [] h = (bs, refl)
begins_split [] (p ∷ part) h = absurd (let e : false ≡ true = h in cc)
begins_split (b ∷ bs) (p ∷ part) h =
    let both = and_parts _ _ h in
    let same = eqb-true b p both.0 in
    let (rest, more) = begins_split bs part both.1 in
    (rest, λ i. same i ∷ more i)

begins_again : (part rest : List ℕ) → begins_with (part ++ rest) part ≡ true
begins_again (p ∷ part) rest = search (rules, eq-eqb, (begins_again part rest))
begins_again x0 rest = search rules

either : (a b : Bool) → (a || b) ≡ true → (a ≡ true) ⊎ (b ≡ true)
either x0 b h = search rules

or_true : (a b : Bool) → b ≡ true → (a || b) ≡ true
or_true x0 b h = search rules

front_or : (a b : Bool) → a ≡ true → (a || b) ≡ true
front_or a b h = ap (λ c. c || b) h

occurs_split : (part bs : List ℕ) → occurs part bs ≡ true → HasSubslice bs part
occurs_split part [] h = let (rest, is) = begins_split [] part h in ([], rest, is)
occurs_split part (b ∷ bs) h = elim (either (begins_with (b ∷ bs) part) (occurs part bs) h) as (λ _. HasSubslice (b ∷ bs) part) [
  | inl front ↦ let (rest, is) = begins_split (b ∷ bs) part front in ([], rest, is)
  | inr later ↦ let (before, rest, is) = occurs_split part bs later in (b ∷ before, rest, ap (λ l. b ∷ l) is)
]

occurs_front : (part bs : List ℕ) → begins_with bs part ≡ true → occurs part bs ≡ true
occurs_front part [] h = h
occurs_front part (b ∷ bs) h = front_or _ (occurs part bs) h

occurs_again : (part before rest : List ℕ) → occurs part (before ++ (part ++ rest)) ≡ true
occurs_again part [] rest = occurs_front part (part ++ rest) (begins_again part rest)
occurs_again part (b ∷ before) rest = or_true (begins_with (b ∷ (before ++ (part ++ rest))) part) _ (occurs_again part before rest)

-- a text holds another where it is something, the other and something joined
pub occurs_where_joined : (part bs : List ℕ) → (occurs part bs ≡ true) ↔ HasSubslice bs part
occurs_where_joined part bs = (occurs_split part bs, λ (before, rest, is). ap (occurs part) is ∙ occurs_again part before rest)

-- what is true just where the text holds the other tells whether it does
pub tells_occurs : (told : Bool) (part bs : List ℕ) → (told ≡ true) ↔ HasSubslice bs part → told ≡ occurs part bs
tells_occurs told part bs h = search (rules, occurs_where_joined)

-- ---- the items that a value holds

held_at_index : (container : Container) (index : Form) (part : ℤ → Option Form)
    → IfSome (option_and_then part (number_in index)) (λ x. indexed container index part ≡ Ok x)
held_at_index container index part = search rules

held_at_key : (ps : List (KeyForm × Form)) (i : Form) (k : Option KeyForm)
    → IfSome (paired ps k) (λ x. ok_or (option_map (λ k. unwrap_or (value_at key_form_order ps k) undefined) k) (not_a_map_key (name_of i)) ≡ Ok x)
held_at_key ps i x2 = search rules

-- what is held is the item
pub held_is_item : (v i : Form) → IfSome (held_item v i) (λ part. item v i ≡ Ok part)
held_is_item (array xs) i = held_at_index in_array i (part_at (items_list xs))
held_is_item (object ps) i = held_at_key (members_list ps) i (key_in i)
held_is_item v i = tt

absent_at_index : (container : Container) (index : Form) (part : ℤ → Option Form) → option_and_then part (number_in index) ≡ None
    → IfOk (indexed container index part) (λ x. x ≡ undefined)
absent_at_index container index part h = search rules

absent_at_key : (ps : List (KeyForm × Form)) (i : Form) (k : Option KeyForm) → paired ps k ≡ None
    → IfOk (ok_or (option_map (λ k. unwrap_or (value_at key_form_order ps k) undefined) k) (not_a_map_key (name_of i))) (λ x. x ≡ undefined)
absent_at_key ps i x2 h = search rules

-- what holds nothing there, and is no text, has undefined there or refuses the item
pub absent_is_undefined : (v i : Form) → text_in v ≡ None → held_item v i ≡ None → IfOk (item v i) (λ part. part ≡ undefined)
absent_is_undefined (text t) i other h = absurd (cc)
absent_is_undefined (array xs) i other h = absent_at_index in_array i (part_at (items_list xs)) h
absent_is_undefined (object ps) i other h = absent_at_key (members_list ps) i (key_in i) h
absent_is_undefined v i other h = refl

pub ruleset held = (held_is_item, absent_is_undefined)
