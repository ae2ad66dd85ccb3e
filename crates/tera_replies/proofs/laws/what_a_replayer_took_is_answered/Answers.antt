-- A source of which nothing is said gave the pieces.
use Rattle.std.proofs.Common.{[], ◌++◌, None, append-nil, sym, refl}
use Rattle.tera_replies.specs.Streams.{untold}
use Rattle.tera_replies.proofs.InputLemmas.{at_bad, at_bad_end, at_end}
use Rattle.tera_replies.proofs.StretchLemmas.{stops_later}
use Rattle.tera_replies.proofs.laws.what_a_replayer_took_is_answered.Goals as goal

pub returns : goal.returns
returns c = record {
  whole = λ bytes text more place wanted state goes runs. at_end None untold tt tt goes runs;
  bad = λ bytes piece text more place told goes stops.
      let all = sym (append-nil (bytes ++ piece)) in
      at_bad {before = bytes} {last = piece} [] stops.read None untold tt all (stops_later goes stops) refl;
  last = λ bytes text place goes whole bad. at_bad_end None untold tt tt goes whole bad;
}
