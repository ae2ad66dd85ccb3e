use Rattle.std.proofs.Common.{rules, sym, ap, Bor, List, ℕ, []}
use Rattle.std.proofs.lemmas.List.{drop_more, drop_all}
use Rattle.std.specs.List.{flat_map}
use Rattle.tera_report.proofs.PutLaws.{none_so_far, more_so_far, all_so_far, broke_so_far}
use Rattle.tera_report.proofs.words.put_all.Goals as goal

-- what an index past the pieces would give
abbrev none : Bor (List ℕ)
none = record { ref_ptr = (0, 0); now = [] }

pub loop-at-init : goal.loop-at-init
loop-at-init g c = none_so_far g.S.Sink.takes _ _ (g.met.S.Sink.nothing _)

pub loop-at-preserved : goal.loop-at-preserved
loop-at-preserved g c =
    let left = ap (flat_map (λ p. p.now)) (sym (drop_more c.args.pieces.now c.loop-at.at none c.loop-at-test.true)) in
    more_so_far g.S.Sink.takes g.met.S.Sink.joined _ _ c.loop-at.invariant left c.in_ok-put.ensures

pub returns-in_err-put : goal.returns-in_err-put
returns-in_err-put g c =
    let left = ap (flat_map (λ p. p.now)) (sym (drop_more c.args.pieces.now c.loop-at.at none c.loop-at-test.true)) in
    let bad = broke_so_far g.S.Sink.takes g.S.Sink.fails g.met.S.Sink.failed_early g.met.S.Sink.failed_later _ _ c.loop-at.invariant left
    c.in_err-put.ensures in
    search rules

pub returns : goal.returns
returns g c = all_so_far g.S.Sink.takes c.loop-at.invariant (ap (flat_map (λ p. p.now)) (drop_all c.loop-at.at c.args.pieces.now c.loop-at-test.false))
