-- The writes so far, one a turn, took what is gone from `rest`. Each took a byte unless a write failed, and after each more is tried.
use Rattle.std.proofs.Common.{◌≡◌, false, ◌+◌, ◌≤◌, List, ◌++◌, length}
use Rattle.std.specs.List.{AllByRecursion}
use Rattle.tera_report.specs.Writer.{Attempt, all_taken, has_fault, GoesOn}
use Rattle.tera_report.proofs.WatchLemmas.{Tried}
use Rattle.tera_report.proofs.watch.Watched.write_rest.Given as goal

abbrev pub invariant-loop-turn : goal.invariant-loop-turn
invariant-loop-turn g l =
    (attempts : List Attempt) × Tried g.W.Writer.contents g.W.Writer.wrote l.fn.self attempts l.self
    × (all_taken attempts ++ l.rest ≡ l.fn.bytes) × AllByRecursion GoesOn attempts × (length attempts ≡ l.turn)
    × (has_fault attempts ≡ false → l.turn + length l.rest ≤ length l.fn.bytes)
