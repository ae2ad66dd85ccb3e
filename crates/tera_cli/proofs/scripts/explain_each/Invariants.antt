use Rattle.std.proofs.Common.{◌≤◌, drop, map}
use Rattle.tera_cli.specs.Scripts.{ReplaysNamed}
use Rattle.tera_cli.proofs.TurnLemmas.{Rest}
use Rattle.tera_cli.proofs.scripts.explain_each.Given as goal

-- what is done of the names that are left is what is done of all
abbrev pub invariant-loop-name : goal.invariant-loop-name
invariant-loop-name g l =
    Rest (ReplaysNamed (g.F.Files.opened_lines l.fn.files)
    (λ _ _ status _. status ≤ 2)
    g.E.Sink.takes g.E.Sink.fails)
    (map (λ name. name.now) l.fn.names) (l.fn.out, l.fn.err) (map (λ name. name.now) (drop l.name-index l.names)) (l.out, l.err)
