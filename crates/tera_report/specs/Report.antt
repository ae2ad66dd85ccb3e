-- What a report says of an error: where it stands in its source, and where its notes stand.
use Rattle.std.specs.Prelude.{ℕ, zero, suc, ◌+◌, ◌-◌, ◌==◌, nat_lt, if◌then◌else◌, List, [], ◌∷◌}
use Rattle.std.specs.Prelude.{◌++◌, map, take, length, replicate, codes, slice_get, unwrap_or}
use Rattle.std.specs.Fmt.{decimal}
use Rattle.std.specs.List.{flat_map, join_with_byte}
use Rattle.std.specs.Str.{chars}
use Rattle.tera_report.specs.Parts.{line_feed, parts_of}
use Rattle.tera_report.specs.declared.span.Span.{Span}

-- a note: another place, and what it is to the error
pub record Note : Type 0 where
  pub label : List ℕ
  pub file : List ℕ
  pub source : List ℕ
  pub span : Span

-- all that a report is made of
pub record Report : Type 0 where
  pub message : List ℕ
  pub file : List ℕ
  pub source : List ℕ
  pub span : Span
  pub notes : List Note

abbrev pub tab : ℕ
tab = 9

abbrev pub space : ℕ
space = 32

abbrev pub caret : ℕ
caret = 94

-- the lines of a source, without their line feeds. There is always one, and it may be empty
abbrev pub pieces_of : List ℕ → List (List ℕ)
pieces_of source = parts_of line_feed source

-- the line of that number, counted from 1; empty where there is none
abbrev pub numbered_line : List ℕ → ℕ → List ℕ
numbered_line source zero = []
numbered_line source (suc n) = unwrap_or (slice_get (pieces_of source) n) []

-- what stands under a character before the carets
abbrev pub under : ℕ → ℕ
under c = if c == tab then tab else space

-- how many carets there are: as many as the span has columns, and one where it has none
abbrev pub width : Span → ℕ
width span = if nat_lt span.start_col span.end_col then span.end_col - span.start_col else 1

-- what stands under a line: something under each character before the span, and carets
abbrev pub underline : List ℕ → Span → List ℕ
underline line span = map under (take span.start_col (chars line)) ++ replicate (width span) caret

-- as many spaces as the number of the line has digits
abbrev pub margin : Span → List ℕ
margin span = replicate (length (decimal span.start_line)) space

-- where it is, with columns counted from 1
abbrev pub place_text : List ℕ → Span → List ℕ
place_text file span =
    file ++ (codes ":" ++ (decimal span.start_line ++ (codes ":" ++ decimal (span.start_col + 1))))

-- the lines that show a line of the source: one with a bar, that line, and what stands under it
abbrev pub shown_lines : List ℕ → Span → List (List ℕ)
shown_lines line span =
    (margin span ++ codes " |")
    ∷ (decimal span.start_line ++ (codes " | " ++ line))
    ∷ (margin span ++ (codes " | " ++ underline line span)) ∷ []

-- the line of its source that a note shows
abbrev pub line_of_note : Note → List ℕ
line_of_note note = numbered_line note.source note.span.start_line

-- the lines of a note
abbrev pub note_lines : Note → List (List ℕ)
note_lines note =
    (codes "note: " ++ (note.label ++ (codes " " ++ place_text note.file note.span)))
    ∷ shown_lines (line_of_note note) note.span

-- the line of its source that a report shows
abbrev pub line_of : Report → List ℕ
line_of report = numbered_line report.source report.span.start_line

-- the lines before the notes
abbrev pub error_lines : Report → List (List ℕ)
error_lines report =
    (codes "error: " ++ report.message)
    ∷ (margin report.span ++ (codes "--> " ++ place_text report.file report.span))
    ∷ shown_lines (line_of report) report.span

-- a note comes after an empty line
abbrev pub note_text : Note → List ℕ
note_text note = line_feed ∷ line_feed ∷ join_with_byte line_feed (note_lines note)

-- the whole report, with no line feed at its end
abbrev pub report_text : Report → List ℕ
report_text report =
    join_with_byte line_feed (error_lines report) ++ flat_map note_text report.notes
