-- What a session is given as a line.
use Rattle.std.specs.Prelude.{◌≡◌, ◌≢◌, ℕ, ◌⊎◌, List, [], ◌∷◌, length, codes}
use Rattle.std.specs.Str.{chars}
use Rattle.tera_report.specs.Report.{Report}
use Rattle.tera_report.specs.declared.span.Span.{Span}
use Rattle.tera_replies.specs.Replay.{source_of}
use Rattle.tera_replies.specs.Script.{Splits, without_return}

-- the bytes are this line, alone or with one end of line behind it
abbrev pub IsLineOf : List ℕ → List ℕ → Type 0
IsLineOf given line =
    Splits given [] line
    ⊎ ((whole : List ℕ) × Splits given (whole ∷ []) [] × (line ≡ without_return whole))

-- a line feed stands inside the bytes: more than an end of line follows these, the first ones
abbrev pub BreaksBehind : List ℕ → List ℕ → Type 0
BreaksBehind given first =
    (lines : List (List ℕ)) × (part : List ℕ) × Splits given (first ∷ lines) part
    × ((lines ≢ []) ⊎ (part ≢ []))

-- where the report's one line ends
abbrev pub line_end : List ℕ → Span
line_end source =
    record {
      start_line = 1;
      start_col = length (chars source);
      end_line = 1;
      end_col = length (chars source);
      range = record { start = length source; end = length source };
    }

-- what is reported of a line feed inside a line: it shows what stands before that
abbrev pub feed_report : List ℕ → Report
feed_report first =
    record {
      message = codes "bad line: a line feed stands inside it";
      file = codes "line 1";
      source = source_of first;
      span = line_end (source_of first);
      notes = [];
    }
