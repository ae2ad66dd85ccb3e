-- Where a place in a text is, by its line and its column.
use Rattle.std.specs.Prelude.{◌≡◌, ◌+◌, ◌-◌, ◌==◌, ◌++◌, ℕ, Bool, false, List, [], length, min}
use Rattle.std.specs.List.{after_last, count_by}
use Rattle.std.specs.Str.{chars}
use Rattle.tera.specs.Parts.{line_feed}
use Rattle.tera.specs.Report.{Report}
use Rattle.tera.specs.types.Span.{Span}
use Rattle.tera_page.specs.Grammar.{begins_blank}
use Rattle.tera_page.specs.Words.{AreBlanks}

-- the text ends with the rest
abbrev pub EndsWith : List ℕ → List ℕ → Type 0
EndsWith text rest = (before : List ℕ) × (text ≡ before ++ rest)

abbrev pub is_line_feed : ℕ → Bool
is_line_feed character = character == line_feed

-- the line behind a text, counted from 1: one more than there are line feeds
abbrev pub line_behind : List ℕ → ℕ
line_behind text = count_by is_line_feed (chars text) + 1

-- the column there, counted from 0: how many characters stand behind the last line feed
abbrev pub column_behind : List ℕ → ℕ
column_behind text = length (after_last is_line_feed (chars text))

-- the span is the first two bytes of what is left of a source, or all of it; where the source ends
-- with that, it tells the line and the column behind what stands before
pub record StandsAt (source left : List ℕ) (span : Span) : Type 0 where
  pub start : span.range.start ≡ length source - length left
  pub end : span.range.end ≡ min (span.range.start + 2) (length source)
  pub line : (before : List ℕ) → source ≡ before ++ left → span.start_line ≡ line_behind before
  pub column : (before : List ℕ) → source ≡ before ++ left → span.start_col ≡ column_behind before
  pub one_line : span.end_line ≡ span.start_line
  pub width : span.end_col ≡ span.start_col + (span.range.end - span.range.start)

-- the span begins where the rest of a source does, behind the blanks there
abbrev pub BeginsAt : List ℕ → List ℕ → Span → Type 0
BeginsAt source rest span =
    (blanks left : List ℕ) × AreBlanks blanks × (begins_blank left ≡ false)
    × (rest ≡ blanks ++ left) × StandsAt source left span

-- the report has this message, and stands at the rest of the source of that file
abbrev pub IsReportAt : List ℕ → List ℕ → List ℕ → List ℕ → Report → Type 0
IsReportAt message file source rest report =
    (span : Span) × BeginsAt source rest span × (report ≡ record {
      message = message;
      file = file;
      source = source;
      span = span;
      notes = [];
    })
