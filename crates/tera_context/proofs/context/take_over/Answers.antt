use Rattle.std.proofs.Common.{arith, IsOk}
use Rattle.tera_context.specs.Context.{state_of}
use Rattle.tera_context.proofs.Extends.{holds_on_err, no_pairs}
use Rattle.tera_context.proofs.Rooms.{no_error, none_new, some_new}
use Rattle.tera_context.proofs.context.take_over.Goals as goal

pub returns-in_err-make_room-clause-nothing : goal.returns-in_err-make_room-clause-nothing
returns-in_err-make_room-clause-nothing c none =
    let nothing = none_new (state_of c.args.values.now.entries) c.args.taken.entries (no_pairs c.args.taken.entries none) in
    absurd (omega (arith, nothing, c.in_err-make_room.ensures.wanted))

pub returns-in_err-make_room-clause-absent : goal.returns-in_err-make_room-clause-absent
returns-in_err-make_room-clause-absent c =
    holds_on_err c.from_residual.result _ (some_new (state_of c.args.values.now.entries) c.args.taken.entries c.in_err-make_room.ensures.wanted)

-- once there is room, nothing is refused
module _ (c : goal.After-put_all) where
  done : IsOk c.put_all.result
  done = c.put_all.ensures.succeeds c.in_ok-make_room.ensures.ok

pub returns-clause-unchanged : goal.returns-clause-unchanged
returns-clause-unchanged c = no_error c.put_all.result _ (done c)

pub returns-clause-absent : goal.returns-clause-absent
returns-clause-absent c = no_error c.put_all.result _ (done c)

pub returns-clause-nothing : goal.returns-clause-nothing
returns-clause-nothing c none = done c
