-- What a layout prints, told of every text: where a text is quoted, the writer chooses of each
-- character past ASCII whether it stands for itself or is told by its code.
use Rattle.std.specs.Prelude.{◌≡◌, ℕ, ℤ, List, [], ◌++◌, codes}
use Rattle.std.specs.Fmt.{signed_decimal}
use Rattle.std.specs.Str.Lossy.{utf8_lossy}
use Rattle.tera_report.specs.Quoted.{Quotes}
use Rattle.tera_meaning.specs.KeyMeaning.{KeyMeaning, truth_key, number_key, text_key}
use Rattle.tera_meaning.specs.Meaning.{Layout}
use Rattle.tera_meaning.specs.Printed.{printed_truth}
use Rattle.tera_meaning.specs.Tree.{Items, Members, undefined, none, truth, number, text, bytes}
use Rattle.tera_meaning.specs.Tree.{array, object, no_items, item, no_members, member}

-- what a key prints in a map: a text is quoted
abbrev pub PrintsKey : KeyMeaning → List ℕ → Type 0
PrintsKey (truth_key b) written = written ≡ printed_truth b
PrintsKey (number_key z) written = written ≡ signed_decimal z
PrintsKey (text_key t) written = Quotes t written

-- what is printed where a text by itself prints as `Shows` says: maps along their pairs. Undefined
-- and none print nothing. Before the first item or pair stands the lead, and before each other one
-- a comma
abbrev mutual
  pub PrintsWith : (List ℕ → List ℕ → Type 0) → Layout → List ℕ → Type 0
  PrintsWith Shows undefined written = written ≡ []
  PrintsWith Shows none written = written ≡ []
  PrintsWith Shows (truth b) written = written ≡ printed_truth b
  PrintsWith Shows (number z) written = written ≡ signed_decimal z
  PrintsWith Shows (text t) written = Shows t written
  PrintsWith Shows (bytes bs) written = written ≡ utf8_lossy bs
  PrintsWith Shows (array xs) written =
      (inner : List ℕ) × PrintsItems [] xs inner × (written ≡ codes "[" ++ inner ++ codes "]")
  PrintsWith Shows (object ps) written =
      (inner : List ℕ) × PrintsMembers [] ps inner × (written ≡ codes "{" ++ inner ++ codes "}")

  pub PrintsItems : List ℕ → Items ℤ (List ℕ) KeyMeaning → List ℕ → Type 0
  PrintsItems lead no_items written = written ≡ []
  PrintsItems lead (item x xs) written =
      (first others : List ℕ) × PrintsWith Quotes x first × PrintsItems (codes ", ") xs others
      × (written ≡ lead ++ (first ++ others))

  pub PrintsMembers : List ℕ → Members ℤ (List ℕ) KeyMeaning → List ℕ → Type 0
  PrintsMembers lead no_members written = written ≡ []
  PrintsMembers lead (member k x ps) written =
      (key value others : List ℕ) × PrintsKey k key × PrintsWith Quotes x value
      × PrintsMembers (codes ", ") ps others
      × (written ≡ lead ++ (key ++ codes ": " ++ value ++ others))

-- what a layout prints by itself: a text prints as itself
abbrev pub Prints : Layout → List ℕ → Type 0
Prints x written = PrintsWith (λ t shown. shown ≡ t) x written

-- what it prints in an array or a map, where a text is quoted
abbrev pub PrintsInside : Layout → List ℕ → Type 0
PrintsInside x written = PrintsWith Quotes x written
