use Rattle.std.proofs.Common.{map, ◌+◌, ◌≤◌, length, vec_len}
use Rattle.std.specs.Vec.{vec_capacity}
use Rattle.std.specs.Vec.Iter.{into_iter_items}
use Rattle.tera_context.specs.Call.{command_of}
use Rattle.tera_context.proofs.Runs.{ShowsKeepingRun, ShowsRun}
use Rattle.tera_context.proofs.steps.run.Given as goal

abbrev pub invariant-loop-next : goal.invariant-loop-next
invariant-loop-next l = record {
  room : vec_len l.answers + length (into_iter_items l.next-iterator) ≤ vec_capacity l.answers;
  kept : ShowsKeepingRun l.fn.context (map command_of l.yielded) l.answers.items l.context;
  so_far : ShowsRun l.fn.context (map command_of l.yielded) l.answers.items l.context;
}
