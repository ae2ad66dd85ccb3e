use Rattle.std.proofs.Common.{rules, ◌++◌, replicate, map, take, ap}
use Rattle.std.specs.Str.{chars}
use Rattle.tera_report.specs.Report.{caret, under, width}
use Rattle.tera_report.proofs.PutLaws.{puts_after}
use Rattle.tera_report.proofs.report.text.put_underline.Goals as goal

pub returns-in_err-put_columns : goal.returns-in_err-put_columns
returns-in_err-put_columns g c =
    let bad = g.met.S.Sink.failed_early _ _ _ (replicate (width c.args.span.now) caret) c.in_err-put_columns.ensures in
    search rules

pub returns : goal.returns
returns g c =
    let is = ap (λ n. map under (take c.args.span.now.start_col (chars c.args.line.now)) ++ replicate n caret) c.width.ensures in
    puts_after g.S.Sink.takes g.S.Sink.fails g.met.S.Sink.joined g.met.S.Sink.failed_later _ _ _ _ _ _ _ is c.in_ok-put_columns.ensures
    c.put_carets.ensures
