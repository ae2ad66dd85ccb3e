use Rattle.std.proofs.Common.{rules, arith, ◌≡◌, ◌<◌, ◌⊎◌, inr, length}
use Rattle.tera_report.specs.Report.{pieces_of}
use Rattle.tera_report.proofs.PartLaws.{last_line, line_later}
use Rattle.tera_report.proofs.report.source.from_line.Goals as goal

pub loop-line-preserved : goal.loop-line-preserved
loop-line-preserved c =
    let (utf8, stands) = c.loop-line.invariant in
    let (free, is) = c.in_ok-later.ensures.found in
    (search rules, line_later c.args.source.now _ _ _ c.loop-line.line free is stands)

pub returns-in_err-later-clause-none : goal.returns-in_err-later-clause-none
returns-in_err-later-clause-none c =
    let (utf8, stands) = c.loop-line.invariant in
    let last = last_line c.args.source.now _ c.loop-line.line c.in_err-later.ensures.none stands in
    let past : (c.args.number ≡ 0) ⊎ (length (pieces_of c.args.source.now) < c.args.number) =
    inr (omega (arith, last, c.loop-line-test.true, c.in_ok-before.ensures)) in
    search rules
