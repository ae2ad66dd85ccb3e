-- What was put and the names left are all.
use Rattle.std.proofs.Common.{◌≡◌, ◌++◌, drop, map}
use Rattle.std.specs.List.{flat_map}
use Rattle.tera_report.specs.Growing.{grown_bytes}
use Rattle.tera_replies.specs.Script.{ended}
use Rattle.tera_c.proofs.session_values.put_names.Given as goal

abbrev pub invariant-loop-name : goal.invariant-loop-name
invariant-loop-name l =
    grown_bytes l.text ++ flat_map ended (map (λ e. e.0.now) (drop l.name-index l.entries))
    ≡ grown_bytes l.fn.text ++ flat_map ended (map (λ e. e.0.now) l.fn.entries)
