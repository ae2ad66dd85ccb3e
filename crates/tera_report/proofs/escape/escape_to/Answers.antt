use Rattle.std.proofs.Common.{rules, sym, ap}
use Rattle.tera_report.specs.Escaping.{escaped, Spells}
use Rattle.tera_report.proofs.EscapeLaws.{Spells-escaped}
use Rattle.tera_report.proofs.PutLaws.{failed_of, none_so_far, more_so_far, all_so_far, broke_so_far}
use Rattle.tera_report.proofs.escape.escape_to.Goals as goal

pub loop-piece-init : goal.loop-piece-init
loop-piece-init g c = (search rules, none_so_far g.S.Sink.takes _ _ (g.met.S.Sink.nothing _))

pub loop-piece-preserved : goal.loop-piece-preserved
loop-piece-preserved g c = (
  search rules,
  more_so_far g.S.Sink.takes g.met.S.Sink.joined _ _ c.loop-piece.invariant.1 (sym c.in-Some.ensures.cut) c.in_ok-put_piece.ensures,
)

pub returns-in_err-put_piece : goal.returns-in_err-put_piece
returns-in_err-put_piece g c =
    let all = broke_so_far g.S.Sink.takes g.S.Sink.fails g.met.S.Sink.failed_early g.met.S.Sink.failed_later _ _ c.loop-piece.invariant.1
    (sym c.in-Some.ensures.cut) c.in_err-put_piece.ensures in
    let bad = failed_of g.S.Sink.fails (λ bytes. Spells bytes c.args.text.now) _ _ _ (Spells-escaped _) all in
    search rules

pub returns : goal.returns
returns g c = (_, Spells-escaped _, all_so_far g.S.Sink.takes c.loop-piece.invariant.1 (ap escaped c.in_default.ensures.ended))
