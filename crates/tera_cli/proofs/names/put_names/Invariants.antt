-- Whatever lists the rest of the names lists, behind what was put, all of them.
use Rattle.std.proofs.Common.{drop}
use Rattle.tera_report.proofs.PutLaws.{Leads}
use Rattle.tera_cli.specs.Names.{IsListOf}
use Rattle.tera_cli.proofs.NameLemmas.{names_in}
use Rattle.tera_cli.proofs.names.put_names.Given as goal

abbrev pub invariant-loop-name : goal.invariant-loop-name
invariant-loop-name g l =
    Leads g.W.Sink.takes (IsListOf (names_in l.entries)) (IsListOf (names_in (drop l.name-index l.entries))) l.fn.out l.out
