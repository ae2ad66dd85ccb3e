-- Parts of what is well made are, and what is made of such parts.
use Rattle.std.proofs.Common.{refl, ap₂, rules}
use Rattle.std.proofs.lemmas.Bool.{and_parts}
use Rattle.std.specs.List.{AllByRecursion}
use Rattle.std.specs.Ordering.{eq_by_cmp}
use Rattle.std.specs.Prelude.{◌≡◌, ℕ, suc, Bool, true, List, [], Option, Some, refl, cond, ◌∷◌, slice_get, IfSome, ◌&&◌, reverse}
use Rattle.std.specs.Str.{encode_utf8_all, IsUtf8}
use Rattle.tera_meaning.specs.Form.{Form, MarkedText}
use Rattle.tera_meaning.specs.Integer.{Integer}
use Rattle.tera_meaning.specs.KeyMeaning.{KeyForm}
use Rattle.tera_meaning.specs.Pairs.{key_form_order, value_at}
use Rattle.tera_meaning.specs.Tree.{Items, no_items, item, items, items_list, members_list, Members, no_members, member}
use Rattle.tera_meaning.specs.WellMade.{IsWellMade, AreWellMade, AreWellMadeMembers}
use lib.Utf8.{scalars, scalar}
use mathlib.Core.List.{reverse_aux}

abbrev pub Sound : Option Form → Type 0
Sound found = IfSome found IsWellMade

sound_pick : (b : Bool) (x : Form) (o : Option Form) → IsWellMade x → Sound o → Sound (cond b (Some x) o)
sound_pick x0 x o h g = search rules

pub sound_pair : (ps : Members Integer MarkedText KeyForm) (k : KeyForm) → AreWellMadeMembers ps → Sound (value_at key_form_order (members_list ps) k)
sound_pair no_members k h = tt
sound_pair (member l x ps) k h = sound_pick (eq_by_cmp key_form_order k l) x _ h.1 (sound_pair ps k h.2)

pub sound_place : (xs : Items Integer MarkedText KeyForm) (n : ℕ) → AreWellMade xs → Sound (slice_get (items_list xs) n)
sound_place (item x xs) (suc n) h = search (rules, (sound_place xs n h.1))
sound_place x0 n h = search rules

-- ---- lists of parts

module _ {X : Type 0} (P : X → Type 0) where
  all_onto : (xs ys : List X) → AllByRecursion P xs → AllByRecursion P ys → AllByRecursion P (reverse_aux xs ys)
  all_onto [] ys h i = i
  all_onto (x ∷ xs) ys h i = all_onto xs (x ∷ ys) h.1 (h.0, i)

  pub all_reversed : (xs : List X) → AllByRecursion P xs → AllByRecursion P (reverse xs)
  all_reversed xs h = all_onto xs [] h tt

pub listed_well : (xs : Items Integer MarkedText KeyForm) → AreWellMade xs → AllByRecursion IsWellMade (items_list xs)
listed_well no_items h = tt
listed_well (item x xs) h = (h.0, listed_well xs h.1)

pub items_well : (xs : List Form) → AllByRecursion IsWellMade xs → AreWellMade (items xs)
items_well [] h = tt
items_well (x ∷ xs) h = (h.0, items_well xs h.1)

pub each_scalar : (cs : List ℕ) → scalars cs ≡ true → AllByRecursion (λ c. scalar c ≡ true) cs
each_scalar [] h = tt
each_scalar (c ∷ cs) h = let p = and_parts _ _ h in (p.0, each_scalar cs p.1)

are_scalars : (cs : List ℕ) → AllByRecursion (λ c. scalar c ≡ true) cs → scalars cs ≡ true
are_scalars [] h = refl
are_scalars (c ∷ cs) h = ap₂ (λ (a b : Bool). a && b) h.0 (are_scalars cs h.1)

pub spelled_well : (cs : List ℕ) → AllByRecursion (λ c. scalar c ≡ true) cs → IsUtf8 (encode_utf8_all cs)
spelled_well cs h = (cs, (are_scalars cs h, refl))
