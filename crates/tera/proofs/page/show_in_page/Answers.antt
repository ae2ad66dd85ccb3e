-- What is not safe is shown escaped.
use Rattle.std.proofs.Common.{sym, ◌∙◌}
use Rattle.tera.proofs.PageLaws.{puts_escaped, puts_exact}
use Rattle.tera.proofs.page.show_in_page.Goals as goal

pub returns-else-is_safe-clause-shown : goal.returns-else-is_safe-clause-shown
returns-else-is_safe-clause-shown g c =
    puts_escaped g.S.Sink.takes g.S.Sink.fails c.put_escaped.result c.args.value.now _ _ (sym c.is_safe.ensures ∙ c.if-is_safe.false) c.put_escaped.ensures

pub returns-else-is_safe-clause-known : goal.returns-else-is_safe-clause-known
returns-else-is_safe-clause-known g c exact =
    puts_exact g.S.Sink.takes g.S.Sink.fails c.put_escaped.result c.args.value.now _ _ exact
    (puts_escaped g.S.Sink.takes g.S.Sink.fails c.put_escaped.result c.args.value.now _ _ (sym c.is_safe.ensures ∙ c.if-is_safe.false) c.put_escaped.ensures)
