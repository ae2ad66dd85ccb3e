-- What a layout prints.
use Rattle.std.specs.Prelude.{◌≡◌, ℕ, Bool, true, false, ◌&&◌, if◌then◌else◌, IsTrue, List, []}
use Rattle.std.specs.Prelude.{◌++◌, ℤ, codes}
use Rattle.std.specs.Fmt.{signed_decimal}
use Rattle.std.specs.Str.Lossy.{utf8_lossy}
use Rattle.tera_report.specs.Escaping.{escaped}
use Rattle.tera_report.specs.Quoted.{quoted, is_ascii_text}
use Rattle.tera_meaning.specs.Form.{Form}
use Rattle.tera_meaning.specs.KeyMeaning.{KeyMeaning, truth_key, number_key, text_key}
use Rattle.tera_meaning.specs.Meaning.{Layout, layout}
use Rattle.tera_meaning.specs.Read.{safe_in}
use Rattle.tera_meaning.specs.Tree.{Items, Members, undefined, none, truth, number, text, bytes}
use Rattle.tera_meaning.specs.Tree.{array, object, no_items, item, no_members, member}

abbrev pub printed_truth : Bool → List ℕ
printed_truth true = codes "true"
printed_truth false = codes "false"

-- what a key prints by itself: a text as itself
abbrev pub shown_key : KeyMeaning → List ℕ
shown_key (truth_key b) = printed_truth b
shown_key (number_key z) = signed_decimal z
shown_key (text_key t) = t

-- how a key prints in a map, where a text is quoted
abbrev pub printed_key : KeyMeaning → List ℕ
printed_key (truth_key b) = printed_truth b
printed_key (number_key z) = signed_decimal z
printed_key (text_key t) = quoted t

-- what is printed where each text prints as `show` says: maps along their pairs. Undefined and none
-- print nothing
abbrev mutual
  pub printed_with : (List ℕ → List ℕ) → Layout → List ℕ
  printed_with show undefined = []
  printed_with show none = []
  printed_with show (truth b) = printed_truth b
  printed_with show (number z) = signed_decimal z
  printed_with show (text t) = show t
  printed_with show (bytes bs) = utf8_lossy bs
  printed_with show (array xs) = codes "[" ++ printed_items xs ++ codes "]"
  printed_with show (object ps) = codes "{" ++ printed_members ps ++ codes "}"

  pub printed_items : Items ℤ (List ℕ) KeyMeaning → List ℕ
  printed_items no_items = []
  printed_items (item x xs) = printed_with quoted x ++ more_items xs

  pub more_items : Items ℤ (List ℕ) KeyMeaning → List ℕ
  more_items no_items = []
  more_items (item x xs) = codes ", " ++ printed_with quoted x ++ more_items xs

  pub printed_members : Members ℤ (List ℕ) KeyMeaning → List ℕ
  printed_members no_members = []
  printed_members (member k x ps) =
      printed_key k ++ codes ": " ++ printed_with quoted x ++ more_members ps

  pub more_members : Members ℤ (List ℕ) KeyMeaning → List ℕ
  more_members no_members = []
  more_members (member k x ps) =
      codes ", " ++ printed_key k ++ codes ": " ++ printed_with quoted x ++ more_members ps

-- a text by itself prints as itself; inside arrays and maps texts print in debug form
abbrev pub printed : Layout → List ℕ
printed x = printed_with (λ t. t) x

abbrev pub is_exact_key : KeyMeaning → Bool
is_exact_key (truth_key b) = true
is_exact_key (number_key z) = true
is_exact_key (text_key t) = is_ascii_text t

-- whether each text that is quoted where the layout stands in an array or map is ASCII
abbrev mutual
  pub is_exact_inside : Layout → Bool
  is_exact_inside undefined = true
  is_exact_inside none = true
  is_exact_inside (truth b) = true
  is_exact_inside (number z) = true
  is_exact_inside (text t) = is_ascii_text t
  is_exact_inside (bytes bs) = true
  is_exact_inside (array xs) = are_exact_items xs
  is_exact_inside (object ps) = are_exact_members ps

  pub are_exact_items : Items ℤ (List ℕ) KeyMeaning → Bool
  are_exact_items no_items = true
  are_exact_items (item x xs) = is_exact_inside x && are_exact_items xs

  pub are_exact_members : Members ℤ (List ℕ) KeyMeaning → Bool
  are_exact_members no_members = true
  are_exact_members (member k x ps) = is_exact_key k && (is_exact_inside x && are_exact_members ps)

-- whether the layout has one printed text: a text by itself has, and all else where each text that
-- is quoted is ASCII
abbrev pub is_exact : Layout → Bool
is_exact undefined = true
is_exact none = true
is_exact (truth b) = true
is_exact (number z) = true
is_exact (text t) = true
is_exact (bytes bs) = true
is_exact (array xs) = are_exact_items xs
is_exact (object ps) = are_exact_members ps

abbrev pub IsExact : Layout → Type 0
IsExact x = IsTrue (is_exact x)

abbrev pub IsExactInside : Layout → Type 0
IsExactInside x = IsTrue (is_exact_inside x)

abbrev pub IsExactKey : KeyMeaning → Type 0
IsExactKey k = IsTrue (is_exact_key k)

-- it is known that nothing is printed
abbrev pub PrintsNothing : Layout → Type 0
PrintsNothing x = IsExact x × (printed x ≡ [])

-- what a page shows of a value: what it prints, as it is where the value is safe, and else escaped
abbrev pub shown_in_page : Form → List ℕ
shown_in_page value =
    if safe_in value then printed (layout value) else escaped (printed (layout value))
