-- Pairs that are picked by their names.
use Rattle.std.specs.Prelude.{ℕ, List, Option, None, if◌then◌else◌}
use Rattle.std.specs.List.{filter_map, list_any}
use Rattle.std.specs.Option.{option_map}
use Rattle.std.specs.Ordering.{eq_by_cmp}
use Rattle.tera.specs.Form.{Form}
use Rattle.tera.specs.KeyMeaning.{KeyForm, text_key, owned, borrowed}
use Rattle.tera.specs.Pairs.{key_form_order, value_at}

-- what the pairs have at the names, each with a key that owns its text
abbrev pub named : List (KeyForm × Form) → List (List ℕ) → List (KeyForm × Form)
named pairs names = filter_map (λ name. option_map (λ value. (text_key (owned name), value))
    (value_at key_form_order pairs (text_key (borrowed name)))) names

-- what the pairs have at a key that is one of the names
abbrev pub value_if_named : List (KeyForm × Form) → List (List ℕ) → KeyForm → Option Form
value_if_named pairs names q =
    if list_any (λ name. eq_by_cmp key_form_order q (text_key (borrowed name))) names
    then value_at key_form_order pairs q else None
