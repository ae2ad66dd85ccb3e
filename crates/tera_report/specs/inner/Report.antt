-- Parts of the text of a report, and how long it is.
use Rattle.std.specs.Prelude.{ℕ, ◌-◌, ◌^◌, List, ◌∷◌, ◌++◌, length, min, replicate, codes}
use Rattle.std.specs.List.{join_with_byte}
use Rattle.tera_report.specs.Parts.{line_feed}
use Rattle.tera_report.specs.Report.{place_text, shown_lines, space}
use Rattle.tera_report.specs.declared.span.Span.{Span}

-- a place, and below it its line
abbrev pub shown_place : (file line : List ℕ) → Span → List ℕ
shown_place file line span =
    place_text file span ++ line_feed ∷ join_with_byte line_feed (shown_lines line span)

-- what a place and its lines begin with, from the name of the file up to what stands under the line
abbrev pub frame_text : (file number column line : List ℕ) → List ℕ
frame_text file number column line =
    let margin = replicate (length number) space in
    file ++ (codes ":" ++ (number
    ++ (codes ":" ++ (column ++ (codes "\n" ++ (margin ++ (codes " |\n"
    ++ (number ++ (codes " | " ++ (line ++ (codes "\n" ++ (margin ++ codes " | "))))))))))))

-- a length, or usize's greatest where it is more
abbrev pub capped : ℕ → ℕ
capped n = min (2 ^ 64 - 1) n
