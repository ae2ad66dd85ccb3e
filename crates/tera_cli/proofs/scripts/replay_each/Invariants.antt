use Rattle.std.proofs.Common.{drop, map}
use Rattle.tera_cli.specs.Scripts.{ReplaysNamed, ReplaysScript}
use Rattle.tera_cli.proofs.TurnLemmas.{Rest}
use Rattle.tera_cli.proofs.scripts.replay_each.Given as goal

-- what is done of the names that are left is what is done of all
abbrev pub invariant-loop-name : goal.invariant-loop-name
invariant-loop-name g l =
    Rest (ReplaysNamed (g.F.Files.opened l.fn.files)
    (ReplaysScript g.F.Script.Source g.W.Sink g.E.Sink) g.E.Sink.takes g.E.Sink.fails)
    (map (λ name. name.now) l.fn.names) (l.fn.out, l.fn.err) (map (λ name. name.now) (drop l.name-index l.names)) (l.out, l.err)
