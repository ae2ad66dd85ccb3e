-- The clause on known bytes, at these.
use Rattle.std.proofs.Common.{Some, ap, inl, inr, arith}
use Rattle.uses.proofs.Ample.{room_told}
use Rattle.uses.proofs.Replayed.{both_status}
use Rattle.uses.proofs.replays.replay_calls.Goals as goal

pub returns : goal.returns
returns c =
    let rooms = c.rooms_break_where_they_are_full.ensures in
    let both = both_status _ _ _ _ c.meanings_tie_themselves.ensures c.equality_is_identity.ensures.identity c.lines_are_split_one_way.ensures
    c.scripts_say_one_thing.ensures c.one_command.ensures c.worked_calls.ensures.cmp c.worked_calls.ensures.eq
    _ _ _ c.new-input.ensures.bytes (ap (λ b. Some b) c.new-input.ensures.end) c.replay_from.ensures.known in
    record {
      answers = λ zero. (rooms.takes _ _ _ (both.1 zero)).grows;
      silent = c.replay_from.ensures.silent;
      status = both.0;
      ample = λ out_fits err_fits. elim (both.2 (λ due short broke. rooms.breaks _ due _ broke (omega (arith, short, out_fits)))) [
        | inl zero ↦ inl zero
        | inr (is_one, told) ↦ inr (is_one, room_told _ _ _ err_fits told)
      ];
    }
