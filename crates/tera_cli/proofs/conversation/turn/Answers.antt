-- What was heard is the line that was obeyed.
use Rattle.std.proofs.Common.{ℕ, List, inr, subst}
use Rattle.tera_cli.specs.Conversation.{IsLine}
use Rattle.tera_cli.proofs.conversation.turn.Goals as goal

pub returns-clause-ok : goal.returns-clause-ok
returns-clause-ok g c =
    let line = c.line_of-line.result.now in
    let whole = subst (λ (heard : List ℕ). IsLine heard line) c.as_slice.ensures.value c.line_of-line.ensures in
    inr (line, c.order_of-order.result, whole, c.order_of-order.ensures, c.goes_on_behind.ensures, c.in_ok-obey.ensures.ok)
