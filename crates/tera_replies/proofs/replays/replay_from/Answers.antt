-- What the end is to be told is told.
use Rattle.tera_replies.proofs.ReplayLaws.{given_weaker, known_weaker}
use Rattle.tera_replies.proofs.replays.replay_from.Goals as goal

pub returns-clause-known : goal.returns-clause-known
returns-clause-known g c =
    rw c.end_by.ensures.value (known_weaker (λ _ h. h) (λ _ h. h) (λ text is. rw is c.end_by.ensures.told) g.S.Source c.args.input.now _ _ _
    (λ _ _ h. h) (λ _ h. h) (λ _ h. h) c.answer_to_end-ending.ensures.known)

pub returns-clause-given : goal.returns-clause-given
returns-clause-given g c =
    rw c.end_by.ensures.value (given_weaker (λ _ h. h) (λ _ h. h) (λ text is. rw is c.end_by.ensures.told) g.S.Source c.args.input.now _ _
    c.answer_to_end-ending.ensures.given)
