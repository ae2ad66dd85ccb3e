-- What a page of pieces is.
use Rattle.std.specs.Prelude.{◌≡◌, ℕ, List, [], Option, None, Some}
use Rattle.std.specs.Prelude.{IfSome, ⊤}
use Rattle.std.specs.FinMap.{get}
use Rattle.std.specs.Option.{option_and_then, option_map}
use Rattle.std.specs.String.{string_bytes}
use Rattle.tera.specs.Form.{Form}
use Rattle.tera.specs.InPage.{ShowsInPage}
use Rattle.tera.specs.Meaning.{layout}
use Rattle.tera.specs.Path.{path}
use Rattle.tera.specs.Printed.{IsExact, shown_in_page}
use Rattle.tera.specs.State.{State}
use Rattle.uses.specs.declared.render.Piece.{Piece}
use Rattle.uses.specs.declared.render.Piece.TheVariants.{Text, Path}

-- what is found at a name, or by a path from there
abbrev pub found : State → List ℕ → Option (List ℕ) → Option Form
found state name None = get state name
found state name (Some to) = option_and_then (λ value. path value to) (get state name)

-- what is shown of what is found: nothing where nothing is
abbrev pub ShowsFound : Option Form → List ℕ → Type 0
ShowsFound None shown = shown ≡ []
ShowsFound (Some value) shown = ShowsInPage value shown

-- what a piece shows: a text itself, or what is found
abbrev pub ShowsPiece : State → Piece → List ℕ → Type 0
ShowsPiece state (Text text) shown = shown ≡ string_bytes text
ShowsPiece state (Path name to) shown =
    ShowsFound (found state (string_bytes name) (option_map string_bytes to)) shown

-- what a piece finds has one printed text
abbrev pub IsExactPiece : State → Piece → Type 0
IsExactPiece state (Text text) = ⊤
IsExactPiece state (Path name to) =
    IfSome (found state (string_bytes name) (option_map string_bytes to))
    (λ value. IsExact (layout value))

-- and then it shows this
abbrev pub shown_if_found : Option Form → List ℕ
shown_if_found None = []
shown_if_found (Some value) = shown_in_page value

abbrev pub shown_by : State → Piece → List ℕ
shown_by state (Text text) = string_bytes text
shown_by state (Path name to) =
    shown_if_found (found state (string_bytes name) (option_map string_bytes to))
