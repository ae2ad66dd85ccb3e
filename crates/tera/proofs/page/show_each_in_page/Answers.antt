-- By the lemmas on parts that are shown in turn.
use Rattle.std.proofs.Common.{◌+◌, [], arith, drop, rules}
use Rattle.tera_report.proofs.PutLaws.{leads_broke, leads_done, leads_more}
use Rattle.tera.proofs.InTurnLaws.{shown_before, shown_nothing, shown_some}
use Rattle.tera.proofs.PageLaws.{value_shows}
use Rattle.tera.specs.InPage.{ShowsInPage}
use Rattle.tera.proofs.page.show_each_in_page.Goals as goal

pub loop-value-init : goal.loop-value-init
loop-value-init g c = record { done = []; leads = λ rest has. has; took = g.met.S.Sink.nothing _ }

pub loop-value-preserved : goal.loop-value-preserved
loop-value-preserved g c =
    let (shown, shows, took) = c.in_ok-show_in_page.ensures.shown in
    leads_more g.S.Sink.takes g.met.S.Sink.joined shown c.loop-value.invariant
    (λ rest. shown_before ShowsInPage c.args.values.now c.loop-value.value-index c.value-item.result shown rest c.loop-value-test.true c.value-item.is shows)
    took

pub returns-in_err-show_in_page : goal.returns-in_err-show_in_page
returns-in_err-show_in_page g c =
    let (shown, shows, broke) = c.in_err-show_in_page.ensures.shown in
    let later = shown_some ShowsInPage value_shows (drop (c.loop-value.value-index + 1) c.args.values.now) in
    let bad = leads_broke g.S.Sink.takes g.S.Sink.fails g.met.S.Sink.failed_later g.met.S.Sink.failed_early shown later.0 c.loop-value.invariant
    (shown_before ShowsInPage c.args.values.now c.loop-value.value-index c.value-item.result shown later.0 c.loop-value-test.true c.value-item.is shows later.1)
    broke in
    search rules

pub returns : goal.returns
returns g c =
    leads_done g.S.Sink.takes c.loop-value.invariant
    (shown_nothing ShowsInPage c.args.values.now c.loop-value.value-index (omega (arith, c.loop-value-test.false)))
