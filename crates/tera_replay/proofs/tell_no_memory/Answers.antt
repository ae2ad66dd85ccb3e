-- What a watched writer took, or failed on, the writer did.
use Rattle.std.proofs.Common.{rules}
use Rattle.tera_replay.proofs.BufferLemmas.{took_or_failed, writer_told}
use Rattle.tera_replies.proofs.ReplayLaws.{told_same}
use Rattle.tera_replay.proofs.tell_no_memory.Goals as goal

pub returns-clause-told : goal.returns-clause-told
returns-clause-told g c =
    let err = g.E.Writer in
    let old = c.new.result in
    let new = c.write_all.new.self in
    let put = took_or_failed err.contents err.wrote c.write_all.result old _ new c.write_all.ensures.told in
    let same = told_same err.contents err.wrote err.flushed old _ new put in
    writer_told err.contents err.wrote err.flushed old _ new _ _ c.new.ensures.writer (search rules) put
