-- The rest begins at the line that the loop has come to.
use Rattle.std.proofs.Common.{◌≡◌, drop}
use Rattle.tera_report.specs.Report.{pieces_of}
use denote.Text.{Utf8}
use denote.Shadow.{shadow}
use Rattle.tera_report.proofs.report.source.from_line.Given as goal

abbrev pub invariant-loop-line : goal.invariant-loop-line
invariant-loop-line l = shadow (Utf8 l.rest) × (pieces_of l.rest ≡ drop l.line (pieces_of l.source))
