-- What is written for a span, and a span that is made longer.
use Rattle.std.specs.Prelude.{ℕ, List, ◌++◌, codes}
use Rattle.std.specs.Fmt.{decimal}
use Rattle.tera_report.specs.declared.span.Span.{Span}

-- what `{}` writes: ` @ 1:0-1:5`
abbrev pub span_text : Span → List ℕ
span_text span =
    codes " @ " ++ (decimal span.start_line ++ (codes ":" ++ (decimal span.start_col
    ++ (codes "-" ++ (decimal span.end_line ++ (codes ":" ++ decimal span.end_col))))))

-- what `{:?}` writes: the same, and the range of bytes, as ` @ 1:0-1:5 (3..8)`
abbrev pub span_debug_text : Span → List ℕ
span_debug_text span =
    span_text span ++ (codes " ("
    ++ (decimal span.range.start ++ (codes ".." ++ (decimal span.range.end ++ codes ")"))))

-- the span, ended where the other ends
abbrev pub expanded : Span → Span → Span
expanded span other = record span {
  end_line = other.end_line;
  end_col = other.end_col;
  range = record span.range { end = other.range.end };
}

-- the span of no node
abbrev pub zeros : Span
zeros = record {
  start_line = 0;
  start_col = 0;
  end_line = 0;
  end_col = 0;
  range =
      record { start = 0; end = 0 };
}
