-- A replay through a buffer, and the text for want of one.
use Rattle.std.proofs.Common.{inl, None, refl}
use Rattle.tera_replay.specs.Buffered.{buffer_streams}
use Rattle.tera_replies.specs.Streams.{reads_dropped}
use Rattle.tera_replay.proofs.BufferLemmas.{nothing_given, nothing_read}
use Rattle.tera_replay.proofs.replay_buffered.Goals as goal

pub returns-in-Some-clause-known : goal.returns-in-Some-clause-known
returns-in-Some-clause-known g c = rw c.in-Some.is c.replay_to-status.ensures.known

pub returns-in-Some-clause-given : goal.returns-in-Some-clause-given
returns-in-Some-clause-given g c = rw c.in-Some.is c.replay_to-status.ensures.given

pub returns-in-None-clause-known : goal.returns-in-None-clause-known
returns-in-None-clause-known g c =
    rw (c.in-None.is, c.tell_no_memory-status.ensures.status)
    (nothing_read _ _ (reads_dropped g.S.Source.gave c.args.input)
    (buffer_streams g.B.Writer None None g.E.Writer c.args.err.now c.tell_no_memory-status.new.err)
    (c.args.input, inl (refl, refl, refl)) (refl, refl) c.tell_no_memory-status.ensures.told)

pub returns-in-None-clause-given : goal.returns-in-None-clause-given
returns-in-None-clause-given g c =
    rw (c.in-None.is, c.tell_no_memory-status.ensures.status) (
      c.args.input,
      nothing_given g.S.Source c.args.input
          (buffer_streams g.B.Writer None None g.E.Writer c.args.err.now c.tell_no_memory-status.new.err) (refl, refl) c.tell_no_memory-status.ensures.told,
    )
