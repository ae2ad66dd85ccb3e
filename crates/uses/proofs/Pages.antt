-- Pieces that find what has one printed text.
use Rattle.std.specs.Prelude.{◌≡◌, ℕ, List, Option, None, Some, IfSome}
use Rattle.std.specs.Option.{option_map}
use Rattle.std.specs.String.{string_bytes}
use Rattle.tera.specs.Form.{Form}
use Rattle.tera.specs.InPage.{ShowsInPage}
use Rattle.tera.specs.Meaning.{layout}
use Rattle.tera.specs.Printed.{IsExact, shown_in_page}
use Rattle.tera.specs.State.{State}
use Rattle.uses.specs.Render.{IsExactPiece, ShowsFound, ShowsPiece, found, shown_by, shown_if_found}
use Rattle.uses.specs.declared.render.Piece.{Piece}
use Rattle.uses.specs.declared.render.Piece.TheVariants.{Text, Path}

-- a value with one printed text shows one text
module _ (known : (value : Form) (shown : List ℕ) → IsExact (layout value) → ShowsInPage value shown → shown ≡ shown_in_page value) (state : State) where
  found_known : (o : Option Form) (shown : List ℕ) → IfSome o (λ value. IsExact (layout value)) → ShowsFound o shown → shown ≡ shown_if_found o
  found_known None shown exact shows = shows
  found_known (Some value) shown exact shows = known value shown exact shows

  pub piece_known : (piece : Piece) (shown : List ℕ) → IsExactPiece state piece → ShowsPiece state piece shown → shown ≡ shown_by state piece
  piece_known (Text text) shown exact shows = shows
  piece_known (Path name to) shown exact shows = found_known (found state (string_bytes name) (option_map string_bytes to)) shown exact shows
