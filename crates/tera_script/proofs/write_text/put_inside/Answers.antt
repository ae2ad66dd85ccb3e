use Rattle.std.proofs.Common.{arith, subst}
use Rattle.tera_report.specs.Sink.{PutsThese}
use Rattle.tera_script.specs.inner.Marked.{greatest}
use Rattle.tera_script.proofs.MarkedParts.{len_in_text, plain_to_end}
use Rattle.tera_script.proofs.write_text.put_inside.Goals as goal

pub returns : goal.returns
returns g c =
    let text = c.args.text.now in
    let n = c.plain_len-run.result in
    let h = len_in_text _ (greatest c.args.ascii) n _ text c.as_bytes.ensures.value c.greatest.ensures c.plain_len-run.ensures in
    subst (λ l. PutsThese g.S.Sink.takes g.S.Sink.fails c.put.result l c.args.out.now c.put.new.self)
    (plain_to_end c.args.ascii text n c.utf8.text h (omega (arith, c.if-run-text.false))) c.put.ensures
