use Rattle.std.proofs.Common.{true, false}
use Rattle.tera_scalars.proofs.TextLemmas.{came, first_char, last_char}
use Rattle.tera_scalars.proofs.text.take_next.Goals as goal

pub returns-then-backwards : goal.returns-then-backwards
returns-then-backwards c =
    let h = c.take_back.ensures in
    rw c.if-backwards.true (came (λ x. x.now) _ _ true _ (λ d. last_char _ _ d h.text) c.take_back.result h.taken)

pub returns-else-backwards : goal.returns-else-backwards
returns-else-backwards c =
    let h = c.take_front.ensures in
    rw c.if-backwards.false (came (λ x. x.now) _ _ false _ (λ d. first_char _ _ d h.text) c.take_front.result h.taken)
