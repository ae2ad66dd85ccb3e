-- What was put goes on, with what the values left show, as what all of them show.
use Rattle.std.proofs.Common.{drop}
use Rattle.tera_report.proofs.PutLaws.{Leads}
use Rattle.tera.specs.InPage.{ShowsInPage}
use Rattle.tera.specs.InTurn.{ShownInTurn}
use Rattle.tera.proofs.page.show_each_in_page.Given as goal

abbrev pub invariant-loop-value : goal.invariant-loop-value
invariant-loop-value g l =
    Leads g.S.Sink.takes (ShownInTurn ShowsInPage l.values) (ShownInTurn ShowsInPage (drop l.value-index l.values)) l.fn.out l.out
