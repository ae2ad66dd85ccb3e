-- What printing a value writes.
use Rattle.std.specs.Prelude.{◌≡◌, ◌++◌, ℕ, ℤ, List, [], Option, Some, None, codes}
use Rattle.std.specs.Prelude.{if◌then◌else◌}
use Rattle.std.specs.Io.KnownBytes.{Appends}
use Rattle.tera_meaning.specs.Form.{Form}
use Rattle.tera_meaning.specs.KeyMeaning.{KeyMeaning, KeyForm, key_meaning}
use Rattle.tera_meaning.specs.Meaning.{Layout, layout}
use Rattle.tera_meaning.specs.Printed.{printed, is_exact}
use Rattle.tera_meaning.specs.Quoted.{Prints, PrintsInside, PrintsKey}
use Rattle.tera_meaning.specs.Quoted.{PrintsItems as PrintsItemsBehind}
use Rattle.tera_meaning.specs.Quoted.{PrintsMembers as PrintsPairsBehind}
use Rattle.tera_meaning.specs.Tree.{Items, Members, items, members, relabeled_items}
use Rattle.tera_meaning.specs.Tree.{relabeled_members}

-- the layouts of items
abbrev pub items_layout : List Form → Items ℤ (List ℕ) KeyMeaning
items_layout xs = relabeled_items (λ n. n.value) (λ t. t.spelled) key_meaning (items xs)

-- what is printed of items: the items joined by `, `
abbrev pub PrintsItems : List Form → List ℕ → Type 0
PrintsItems xs written = PrintsItemsBehind [] (items_layout xs) written

-- the same where others stand before them: `, ` stands before each
abbrev pub PrintsLaterItems : List Form → List ℕ → Type 0
PrintsLaterItems xs written = PrintsItemsBehind (codes ", ") (items_layout xs) written

-- the layouts of pairs
abbrev pub pairs_layout : List (KeyForm × Form) → Members ℤ (List ℕ) KeyMeaning
pairs_layout ps = relabeled_members (λ n. n.value) (λ t. t.spelled) key_meaning (members ps)

-- what is printed of a key and its value, which stand in a map, where texts are quoted
abbrev pub PrintsPair : KeyForm → Form → List ℕ → Type 0
PrintsPair k v written =
    (key value : List ℕ) × PrintsKey (key_meaning k) key × PrintsInside (layout v) value
    × (written ≡ key ++ codes ": " ++ value)

-- what is printed of pairs: the pairs joined by `, `
abbrev pub PrintsPairs : List (KeyForm × Form) → List ℕ → Type 0
PrintsPairs ps written = PrintsPairsBehind [] (pairs_layout ps) written

-- the same where others stand before them: `, ` stands before each
abbrev pub PrintsLaterPairs : List (KeyForm × Form) → List ℕ → Type 0
PrintsLaterPairs ps written = PrintsPairsBehind (codes ", ") (pairs_layout ps) written

-- a writer that held old holds old and what is printed of the layout, where it tells what it holds
abbrev pub WritesPrinted : Layout → Option (List ℕ) → Option (List ℕ) → Type 0
WritesPrinted x old new = (written : List ℕ) × Prints x written × Appends old new written

-- a writer that held old holds old and what is printed of the layout in an array or a map, where
-- texts are quoted
abbrev pub WritesInside : Layout → Option (List ℕ) → Option (List ℕ) → Type 0
WritesInside x old new = (written : List ℕ) × PrintsInside x written × Appends old new written

-- the printed text, where it is known
abbrev pub printed_if_exact : Layout → Option (List ℕ)
printed_if_exact x = if is_exact x then Some (printed x) else None
