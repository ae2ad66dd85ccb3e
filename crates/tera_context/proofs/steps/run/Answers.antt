use Rattle.std.proofs.Common.{arith}
use Rattle.std.proofs.lemmas.List.{map-append}
use Rattle.std.proofs.lemmas.Grind.{common_steps}
use Rattle.tera_context.proofs.Runs.{shown_on, shows_run}
use Rattle.tera_context.proofs.steps.run.Goals as goal

pub loop-next-preserved : goal.loop-next-preserved
loop-next-preserved c =
    let kept = shown_on _ _ _ _ _ _ _ c.loop-next.invariant.kept c.step.ensures.outcome c.step.ensures.unchanged in
    record {
      room = grind (arith, common_steps);
      kept = rw (c.push_reserved.ensures.items, map-append) kept;
      so_far = rw (c.push_reserved.ensures.items, map-append) (shows_run _ _ _ _ kept);
    }
