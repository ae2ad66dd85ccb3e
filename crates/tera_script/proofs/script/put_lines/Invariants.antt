use Rattle.std.proofs.Common.{drop}
use Rattle.tera_report.proofs.PutLaws.{SoFar}
use Rattle.tera_context.specs.Context.{lent_entries}
use Rattle.tera_script.specs.Saved.{script_of}
use Rattle.tera_script.proofs.script.put_lines.Given as goal

-- what was put is the lines of the entries before those that are left
abbrev pub invariant-loop-name : goal.invariant-loop-name
invariant-loop-name g l =
    SoFar g.S.Sink.takes l.fn.out (script_of l.fn.ascii (lent_entries l.fn.entries))
    (script_of l.fn.ascii (lent_entries (drop l.name-index l.entries))) l.out
