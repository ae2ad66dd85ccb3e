-- The loop over the items of an array.
use Rattle.std.proofs.Common.{◌≡◌, ◌≢◌, ◌≤◌, ℕ, suc, max, List, [], ◌∷◌, ◌++◌, length, map, Some, None, refl, ap, sym, ◌∙◌, arith, subst}
use Rattle.std.proofs.lemmas.List.{map-append}
use Rattle.tera_meaning.specs.Integer.{Integer}
use Rattle.tera_meaning.specs.Form.{Form, MarkedText}
use Rattle.tera_meaning.specs.KeyMeaning.{KeyForm}
use Rattle.tera_meaning.specs.Tree.{Items, array, no_items, item, items, items_list, depth, items_depth}
use Rattle.tera_meaning.proofs.TreeLaws.{list_of_items}
use Rattle.tera_script.specs.Word.{is_blank}
use Rattle.tera_script.specs.Literal.{tree_value, item_values}
use Rattle.tera_script.specs.Readers.{past, AllIn, BeginsWithLiteral, Ends, IsLiteralAt, IsArrayAt}
use Rattle.tera_script.proofs.Literals.{items_closed, only_at}
use Rattle.tera_script.proofs.Openings.{literal_utf8}
use Rattle.tera_script.proofs.Series.{ArePartsOf, deepest, IsSoFar, IsNowhere, IsWhole, none_so_far, no_part, no_mark, last_part, one_more}

item_parts : ArePartsOf BeginsWithLiteral Ends 93
item_parts = record {
  closed = items_closed;
  only = only_at;
  utf8 = literal_utf8;
}

deepest_item : (all : Items Integer MarkedText KeyForm) → deepest depth (items_list all) ≡ items_depth all
deepest_item no_items = refl
deepest_item (item x xs) = ap (max (depth x)) (deepest_item xs)

item_values_are : (trees : List Form) → item_values (items trees) ≡ items (map tree_value trees)
item_values_are [] = refl
item_values_are (t ∷ ts) = ap (item (tree_value t)) (item_values_are ts)

-- the values so far are those of trees that stand there
pub record HasItems (deep : ℕ) (inside : List ℕ) (values : List Form) (rest : List ℕ) : Type 0 where
  pub trees : List Form
  pub values_are : values ≡ map tree_value trees
  pub so_far : IsSoFar BeginsWithLiteral Ends 93 depth deep inside trees rest

pub no_items_yet : {deep : ℕ} {inside : List ℕ} {values : List Form} {rest : List ℕ} → values ≡ [] → rest ≡ past is_blank inside
    → ((end : List ℕ) → rest ≢ 93 ∷ end) → HasItems deep inside values rest
no_items_yet {deep} {inside} {values} {rest} e r opened = record {
  trees = [];
  values_are = e;
  so_far = none_so_far BeginsWithLiteral Ends 93 depth deep inside rest r opened;
}

nowhere : (levels : ℕ) (inside : List ℕ) → IsNowhere BeginsWithLiteral Ends 93 depth levels inside → IsArrayAt levels inside None
nowhere levels inside n = λ utf8 all rest h d. n utf8 (items_list all) rest h (subst (λ m. suc m ≤ levels) (sym (deepest_item all)) d)

whole : (levels : ℕ) (inside : List ℕ) (trees values : List Form) (value : Form) (end : List ℕ) → IsWhole BeginsWithLiteral Ends 93 depth levels inside trees
    end
    → values ≡ map tree_value trees → value ≡ array (items values) → IsArrayAt levels inside (Some (value, end))
whole levels inside trees values value end w values_are is =
    let listed = list_of_items trees in (
      items trees,
      is ∙ ap (λ vs. array (items vs)) values_are ∙ ap array (sym (item_values_are trees)),
      subst (λ l. AllIn BeginsWithLiteral 93 inside l end) (sym listed) w.0,
      subst (λ m. suc m ≤ levels) (deepest_item (items trees)) (subst (λ l. suc (deepest depth l) ≤ levels) (sym listed) w.1),
    )

module _ {deep : ℕ} {inside : List ℕ} {values : List Form} {rest : List ℕ} (h : HasItems deep inside values rest) {levels : ℕ} (l : levels ≡ suc deep) where
  -- where no literal stands
  pub no_item : IsLiteralAt deep rest None → IsArrayAt levels inside None
  no_item n = nowhere levels inside (no_part item_parts h.so_far l n)

  module _ {v : Form} {behind : List ℕ} (read : IsLiteralAt deep rest (Some (v, behind))) where
    pub no_item_mark : ((end : List ℕ) → past is_blank behind ≢ 93 ∷ end) → ((end : List ℕ) → past is_blank behind ≢ 44 ∷ end) → IsArrayAt levels inside None
    no_item_mark closed comma = nowhere levels inside (no_mark item_parts h.so_far l read.2 read.3 closed comma)

    pub no_item_end : length (past is_blank behind) ≡ 0 → IsArrayAt levels inside None
    no_item_end z = no_item_mark (λ end e. omega (arith, z, ap length e)) (λ end e. omega (arith, z, ap length e))

    more_values : {longer : List Form} → longer ≡ values ++ v ∷ [] → longer ≡ map tree_value (h.trees ++ read.0 ∷ [])
    more_values u = u ∙ (λ i. h.values_are i ++ read.1 i ∷ []) ∙ sym (map-append tree_value h.trees (read.0 ∷ []))

    pub last_item : {longer : List Form} {value : Form} {end : List ℕ} → longer ≡ values ++ v ∷ [] → value ≡ array (items longer)
        → past is_blank behind ≡ 93 ∷ end → IsArrayAt levels inside (Some (value, end))
    last_item {longer} {value} {end} u is m =
        whole levels inside (h.trees ++ read.0 ∷ []) longer value end (last_part item_parts h.so_far l read.2 read.3 read.4 m) (more_values u) is

    pub next_item : {longer : List Form} {next after : List ℕ} → longer ≡ values ++ v ∷ [] → past is_blank behind ≡ 44 ∷ next → after ≡ past is_blank next
        → HasItems deep inside longer after
    next_item {longer} {next} {after} u m a = record {
      trees = h.trees ++ read.0 ∷ [];
      values_are = more_values u;
      so_far = one_more item_parts h.so_far l read.2 read.3 read.4 m a;
    }
