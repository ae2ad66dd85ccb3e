use Rattle.std.proofs.Common.{rules, refl, ◌∷◌, ◌++◌, [], map, string_bytes}
use Rattle.std.proofs.lemmas.Result.{MatchResult-weaker}
use Rattle.tera_report.specs.Quoted.{QuotesList}
use Rattle.tera_report.proofs.PutLaws.{failed_of}
use Rattle.tera_report.proofs.QuoteLaws.{some_items}
use Rattle.tera_report.proofs.quote.put_quoted_list.Goals as goal

pub returns-in_err-put : goal.returns-in_err-put
returns-in_err-put g c =
    let texts = map string_bytes c.args.texts.now in
    let items = some_items [] texts in
    let failed = g.met.S.Sink.failed_early _ _ _ (items.0 ++ (93 ∷ [])) c.in_err-put.ensures in
    let bad = failed_of g.S.Sink.fails (QuotesList texts) _ _ _ (items.0, items.1, refl) failed in
    search rules

pub returns-in_err-put_quoted_items : goal.returns-in_err-put_quoted_items
returns-in_err-put_quoted_items g c =
    let texts = map string_bytes c.args.texts.now in
    let (items, stand, refused) = c.in_err-put_quoted_items.ensures in
    let failed = g.met.S.Sink.failed_later _ (91 ∷ []) _ (items ++ (93 ∷ [])) _ c.in_ok-put.ensures (g.met.S.Sink.failed_early _ _ _ (93 ∷ []) refused) in
    let bad = failed_of g.S.Sink.fails (QuotesList texts) _ _ _ (items, stand, refl) failed in
    search rules

pub returns : goal.returns
returns g c =
    let (items, stand, took) = c.in_ok-put_quoted_items.ensures in
    let first = g.met.S.Sink.joined _ (91 ∷ []) _ items _ c.in_ok-put.ensures took in
    MatchResult-weaker c.put-2.result c.put-2.ensures
    (λ _ last. (_, (items, stand, refl), g.met.S.Sink.joined _ _ _ (93 ∷ []) _ first last))
    (λ _ bad. (_, (items, stand, refl), g.met.S.Sink.failed_later _ _ _ (93 ∷ []) _ first bad))
