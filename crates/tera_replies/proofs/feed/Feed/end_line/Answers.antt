-- The line at hand is whole, and one reply answers it, if any.
use Rattle.std.proofs.Common.{◌≡◌, ◌||◌, rules}
use Rattle.tera_replies.specs.inner.Place.{place_of}
use Rattle.tera_replies.proofs.StretchLemmas.{Goes-line}
use Rattle.tera_replies.proofs.feed.Feed.end_line.Goals as goal
use Rattle.tera_replies.proofs.feed.Feed.end_line.Goals.{then-self, else-self}

pub returns-clause-ok : goal.returns-clause-ok
returns-clause-ok g c =
    let told = c.in_ok-wanted.ensures.ok in
    let wanted : c.if-self.self ≡ (c.args.self.now.wanted_memory || c.in_ok-wanted.wanted) = elim c.if-self.branch
    [ then-self w ↦ search rules | else-self w ↦ search rules ] in (
      told.0,
      Goes-line (place_of c.args.self.now) _ c.args.rest.now told.0 c.in_ok-wanted.wanted c.requires.part c.requires.rest told.1 (search rules) (search rules)
          wanted,
      told.2,
    )
