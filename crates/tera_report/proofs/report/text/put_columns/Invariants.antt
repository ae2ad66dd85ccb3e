-- What was put, and what stands under the characters left, is what stands under all of them.
use Rattle.std.proofs.Common.{◌-◌, map, take}
use Rattle.std.specs.Str.{IsUtf8, chars}
use Rattle.std.specs.Str.Iter.{chars_rest}
use Rattle.tera_report.specs.Report.{under}
use Rattle.tera_report.proofs.PutLaws.{SoFar}
use Rattle.tera_report.proofs.report.text.put_columns.Given as goal

abbrev pub invariant-loop-column : goal.invariant-loop-column
invariant-loop-column g l =
    IsUtf8 (chars_rest l.rest)
    × SoFar g.S.Sink.takes l.fn.out (map under (take l.count (chars l.line))) (map under (take (l.count - l.column) (chars (chars_rest l.rest)))) l.out
