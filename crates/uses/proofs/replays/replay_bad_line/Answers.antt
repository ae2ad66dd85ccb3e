-- The clause on known bytes, at these.
use Rattle.std.proofs.Common.{Some, ap, codes, inl, inr, arith}
use Rattle.uses.proofs.Ample.{room_told}
use Rattle.uses.proofs.Replayed.{bad_status}
use Rattle.uses.proofs.replays.replay_bad_line.Goals as goal

pub returns : goal.returns
returns c = λ out_fits err_fits.
    let rooms = c.rooms_break_where_they_are_full.ensures in
    elim (bad_status _ _ _ _ c.equality_is_identity.ensures.identity c.lines_are_split_one_way.ensures c.scripts_say_one_thing.ensures
    c.one_command.ensures c.worked_calls.ensures.eq c.worked_faults.ensures.word _ _ _ c.new-input.ensures.bytes
    (ap (λ b. Some b) c.new-input.ensures.end) c.replay_from.ensures.known
    (λ due short broke. rooms.breaks _ due _ broke (omega (arith, short, out_fits)))) [
      | inl (is_two, gets, told) ↦ inl (is_two, (rooms.takes _ _ _ gets).grows, room_told _ _ _ err_fits told)
      | inr (is_one, told) ↦ inr (is_one, room_told c.args.err.now (codes "error: Out of memory\n") _ (omega (arith, err_fits)) told)
    ]
