-- A text has one spelling.
use Rattle.std.proofs.Common.{refl, subst}
use Rattle.std.proofs.lemmas.Result.{MatchResult-weaker}
use Rattle.tera_report.proofs.EscapeLaws.{spelling_is_escaped}
use Rattle.tera.proofs.escaping_sink.EscapingSink.put.Goals as goal

pub returns : goal.returns
returns g c =
    MatchResult-weaker c.escape_to.result c.escape_to.ensures
    (λ _ put. record { same = refl; took = subst (λ l. g.S.Sink.takes _ l _) (spelling_is_escaped put.0 c.args.text.now put.1) put.2 })
    (λ _ bad. record { same = refl; failed = subst (λ l. g.S.Sink.fails _ l _) (spelling_is_escaped bad.0 c.args.text.now bad.1) bad.2 })
