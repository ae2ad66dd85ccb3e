-- Pieces of a text that is escaped.
use Rattle.std.specs.Prelude.{◌≡◌, ◌≤◌, ◌<◌, ℕ, false, List, slice_index}
use Rattle.tera_report.specs.Escaping.{is_special, spelling, ampersand, less_than, greater_than}
use Rattle.tera_report.specs.Escaping.{double_quote, single_quote}
use Rattle.tera_report.specs.declared.pieces.Piece.{Piece}
use Rattle.tera_report.specs.declared.pieces.Piece.TheVariants.{Run, Ampersand, LessThan}
use Rattle.tera_report.specs.declared.pieces.Piece.TheVariants.{GreaterThan, DoubleQuote}
use Rattle.tera_report.specs.declared.pieces.Piece.TheVariants.{SingleQuote}

-- what is written for a piece: a run as it is, or an entity
abbrev pub written : Piece → List ℕ
written (Run run) = run.now
written Ampersand = spelling ampersand
written LessThan = spelling less_than
written GreaterThan = spelling greater_than
written DoubleQuote = spelling double_quote
written SingleQuote = spelling single_quote

-- no byte from start on and before end is special
abbrev pub IsPlain : List ℕ → ℕ → ℕ → Type 0
IsPlain bytes start end = (k : ℕ) → start ≤ k → k < end → is_special (slice_index bytes k) ≡ false
