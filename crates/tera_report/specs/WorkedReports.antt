-- Worked reports.
use Rattle.std.specs.Prelude.{ℕ, List, [], ◌∷◌, codes}
use Rattle.tera_report.specs.declared.span.Span.{Span}
use Rattle.tera_report.specs.Report.{Report}

-- from one column of a line to another
abbrev span_on : (line from to : ℕ) → Span
span_on line from to =
    record {
      start_line = line;
      start_col = from;
      end_line = line;
      end_col = to;
      range =
          record { start = 0; end = 0 };
    }

abbrev pub with_note : Report
with_note =
    record {
      message = codes "bad";
      file = codes "a";
      source = codes "xy";
      span = span_on 1 0 2;
      notes = record {
        label = codes "called from";
        file = codes "b";
        source = codes "z";
        span =
            span_on 1 0 1;
      } ∷ [];
    }

abbrev pub without_source : Report
without_source = record {
  message = codes "m";
  file = [];
  source = [];
  span = span_on 3 0 1;
  notes =
      [];
}

-- on a source of two lines, the second with a tab
abbrev on_two_lines : Span → Report
on_two_lines span = record {
  message = codes "bad";
  file = codes "a.html";
  source =
      codes "x\n\t{{ y";
  span = span;
  notes = [];
}

abbrev pub at_tab : Report
at_tab = on_two_lines (span_on 2 1 3)

abbrev pub past_the_end : Report
past_the_end = on_two_lines (span_on 9 0 1)

abbrev pub at_line_0 : Report
at_line_0 = on_two_lines (span_on 0 1 3)

abbrev pub at_last_column : Report
at_last_column = on_two_lines (span_on 1 18446744073709551615 0)

abbrev pub past_ascii : Report
past_ascii =
    record {
      message = codes "bad line";
      file = codes "line 1";
      source = codes "frob é";
      span =
          span_on 1 0 6;
      notes = [];
    }

abbrev pub four_lines : List ℕ
four_lines = codes "foo\nbar\r\n\nbaz"
