-- What a page brings that is not marked safe.
use Rattle.std.specs.Prelude.{◌≡◌, ℕ, Bool, true, false, List, Ok}
use Rattle.tera.specs.Entities.{SpecialBeginEntities}
use Rattle.tera.specs.InTurn.{ShownInTurn}
use Rattle.tera_filters.specs.Marks.{is_safe_text}
use Rattle.tera_page.specs.Rendering.{Piece, Pieces, ShowsPiece, verbatim, value}
use Rattle.tera_page.specs.Template.{in_page, as_printed}

-- the template's own text, a value that it shows as it prints, and a text with a safe flag
abbrev pub is_marked : Piece → Bool
is_marked (verbatim t) = true
is_marked (value in_page v) = is_safe_text v
is_marked (value as_printed v) = true

-- a piece is shown so, and where it is not marked, each of `<`, `>`, `"`, `'` and `&` there begins
-- an entity
abbrev pub ShowsPlainly : Piece → List ℕ → Type 0
ShowsPlainly piece shown =
    ShowsPiece piece shown × (is_marked piece ≡ false → SpecialBeginEntities shown)

-- the page is what its pieces show, one behind the other, and no piece but a marked one brings a
-- tag
abbrev pub BringsNoTag : Pieces → List ℕ → Type 0
BringsNoTag pieces page = (ps : List Piece) × (pieces ≡ Ok ps) × ShownInTurn ShowsPlainly ps page
