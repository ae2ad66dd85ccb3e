use Rattle.std.proofs.Common.{◌≢◌}
use Rattle.std.proofs.lemmas.List.Elements.{All-nil}
use Rattle.tera_replies.specs.Script.{line_feed}
use Rattle.tera_replies.specs.Stretch.{start}
use Rattle.tera_replies.proofs.StretchLemmas.{Goes-append, Goes-none}
use Rattle.tera_replies.proofs.laws.stretches_are_joined.Goals as goal

pub returns : goal.returns
returns c = record {
  none = Goes-none start (All-nil (λ byte. byte ≢ line_feed));
  joined = λ first middle last bytes later text more goes on. Goes-append goes on;
}
