-- Arrays of one item and maps of one pair that nest, and how they are spelled.
use Rattle.std.specs.Prelude.{ℕ, zero, suc, true, List, [], ◌∷◌, ◌++◌, codes}
use Rattle.tera_meaning.specs.Form.{Form}
use Rattle.tera_meaning.specs.KeyMeaning.{truth_key}
use Rattle.tera_meaning.specs.Tree.{array, object, no_items, item, no_members, member}

-- the literal between n pairs of brackets
abbrev pub in_brackets : ℕ → List ℕ → List ℕ
in_brackets zero literal = literal
in_brackets (suc n) literal = 91 ∷ (in_brackets n literal ++ 93 ∷ [])

-- the value in n arrays, each in the next
abbrev pub in_arrays : ℕ → Form → Form
in_arrays zero value = value
in_arrays (suc n) value = array (item (in_arrays n value) no_items)

-- the literal between n pairs of brackets and n of braces, by turns
abbrev pub in_turns : ℕ → List ℕ → List ℕ
in_turns zero literal = literal
in_turns (suc n) literal = codes "[{true:" ++ (in_turns n literal ++ codes "}]")

-- the value in n arrays and n maps, by turns
abbrev pub in_both : ℕ → Form → Form
in_both zero value = value
in_both (suc n) value =
    array (item (object (member (truth_key true) (in_both n value) no_members)) no_items)
