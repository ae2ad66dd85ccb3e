use Rattle.std.proofs.Common.{rules, refl, ◌++◌, ◌∷◌, []}
use Rattle.std.proofs.lemmas.Result.{MatchResult-weaker}
use Rattle.tera_report.specs.Quoted.{Quotes, escapes}
use Rattle.tera_report.proofs.PutLaws.{failed_of}
use Rattle.tera_report.proofs.QuoteLaws.{quotes_by_rule}
use Rattle.tera_report.proofs.quote.put_quoted.Goals as goal

pub returns-in_err-put : goal.returns-in_err-put
returns-in_err-put g c =
    let failed = g.met.S.Sink.failed_early _ _ _ (escapes c.args.text.now ++ (34 ∷ [])) c.in_err-put.ensures in
    let bad = failed_of g.S.Sink.fails (Quotes c.args.text.now) _ _ _ (quotes_by_rule c.args.text.now) failed in
    search rules

pub returns-in_err-put_escaped : goal.returns-in_err-put_escaped
returns-in_err-put_escaped g c =
    let (bytes, stands, refused) = c.in_err-put_escaped.ensures in
    let failed = g.met.S.Sink.failed_early _ _ _ (34 ∷ []) (g.met.S.Sink.failed_later _ _ _ bytes _ c.in_ok-put.ensures refused) in
    let bad = failed_of g.S.Sink.fails (Quotes c.args.text.now) _ _ _ (bytes, stands, refl) failed in
    search rules

pub returns : goal.returns
returns g c =
    let (bytes, stands, took) = c.in_ok-put_escaped.ensures in
    let first = g.met.S.Sink.joined _ _ _ bytes _ c.in_ok-put.ensures took in
    MatchResult-weaker c.put-2.result c.put-2.ensures
    (λ _ last. (_, (bytes, stands, refl), g.met.S.Sink.joined _ _ _ _ _ first last))
    (λ _ bad. (_, (bytes, stands, refl), g.met.S.Sink.failed_later _ _ _ _ _ first bad))
