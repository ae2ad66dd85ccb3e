use Rattle.std.proofs.Common.{subst, length}
use Rattle.std.specs.Bool.{OnTrue}
use Rattle.tera_report.specs.Quoted.{Escapes}
use Rattle.tera_report.specs.inner.Quoted.{PlainBetween}
use Rattle.tera_report.proofs.PutLaws.{puts_these}
use Rattle.tera_report.proofs.QuoteLaws.{escapes_itself}
use Rattle.tera_report.proofs.QuoteLemmas.{escapes_between}
use Rattle.tera_report.proofs.quote.put_escaped.Goals as goal

pub returns-then-is_plain : goal.returns-then-is_plain
returns-then-is_plain g c =
    let text = c.args.text.now in
    let bytes = c.as_bytes.result.now in
    let looked = subst (λ b. OnTrue b (PlainBetween bytes 0 (length bytes))) c.if-is_plain.true c.is_plain.ensures in
    let plain = subst (λ t. PlainBetween t 0 (length t)) c.as_bytes.ensures.value looked in
    puts_these g.S.Sink.takes g.S.Sink.fails (Escapes text) _ text _ _ (escapes_itself text (escapes_between text plain)) c.put.ensures
