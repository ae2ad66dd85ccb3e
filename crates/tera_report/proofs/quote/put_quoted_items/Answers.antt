use Rattle.std.proofs.Common.{rules, refl, ◌+◌, ◌∷◌, [], map, string_bytes, drop, sym, ap, ◌∙◌, subst}
use Rattle.std.proofs.lemmas.List.{drop_more, drop_all}
use Rattle.std.specs.Fmt.{comma_space}
use Rattle.tera_report.specs.Quoted.{Quotes, QuotesItems, quoted}
use Rattle.tera_report.proofs.PutLaws.{leads_on, leads_more, leads_broke, leads_done}
use Rattle.tera_report.proofs.QuoteLaws.{some_items, quotes_by_rule}
use Rattle.tera_report.proofs.QuoteLemmas.{items_more}
use Rattle.tera_report.proofs.quote.put_quoted_items.Goals as goal

pub loop-text-init : goal.loop-text-init
loop-text-init g c = (search rules, record { done = []; leads = λ rest has. has; took = g.met.S.Sink.nothing _ })

pub loop-text-preserved : goal.loop-text-preserved
loop-text-preserved g c =
    let i = c.loop-text.text-index in
    let lead = c.loop-text.lead.now in
    let left = drop_more c.args.texts.now i c.text-item.result c.loop-text-test.true ∙ ap (λ v. v ∷ drop (i + 1) c.args.texts.now) (sym c.text-item.is) in
    let (bytes, stands, put) = c.in_ok-put_quoted.ensures in
    let quotes = subst (λ t. Quotes t bytes) c.as_str.ensures.value stands in
    let items = items_more string_bytes _ c.text-item.result _ lead bytes left quotes in
    let first = leads_on g.S.Sink.takes g.met.S.Sink.joined lead c.loop-text.invariant.1 c.in_ok-put.ensures in
    (search rules, leads_more g.S.Sink.takes g.met.S.Sink.joined bytes first items put)

pub returns-in_err-put : goal.returns-in_err-put
returns-in_err-put g c =
    let all = c.args.texts.now in
    let i = c.loop-text.text-index in
    let left = drop_more all i c.text-item.result c.loop-text-test.true ∙ ap (λ v. v ∷ drop (i + 1) all) (sym c.text-item.is) in
    let later = some_items comma_space (map string_bytes (drop (i + 1) all)) in
    let text = string_bytes c.text-item.result in
    let bad = leads_broke g.S.Sink.takes g.S.Sink.fails g.met.S.Sink.failed_later g.met.S.Sink.failed_early _ _ c.loop-text.invariant.1
    (items_more string_bytes _ c.text-item.result _ _ (quoted text) left (quotes_by_rule text) later.0 later.1) c.in_err-put.ensures in
    search rules

pub returns-in_err-put_quoted : goal.returns-in_err-put_quoted
returns-in_err-put_quoted g c =
    let all = c.args.texts.now in
    let i = c.loop-text.text-index in
    let lead = c.loop-text.lead.now in
    let left = drop_more all i c.text-item.result c.loop-text-test.true ∙ ap (λ v. v ∷ drop (i + 1) all) (sym c.text-item.is) in
    let later = some_items comma_space (map string_bytes (drop (i + 1) all)) in
    let (bytes, stands, refused) = c.in_err-put_quoted.ensures in
    let quotes = subst (λ t. Quotes t bytes) c.as_str.ensures.value stands in
    let first = leads_on g.S.Sink.takes g.met.S.Sink.joined lead c.loop-text.invariant.1 c.in_ok-put.ensures in
    let bad = leads_broke g.S.Sink.takes g.S.Sink.fails g.met.S.Sink.failed_later g.met.S.Sink.failed_early bytes later.0 first
    (items_more string_bytes _ c.text-item.result _ lead bytes left quotes later.0 later.1) refused in
    search rules

pub returns : goal.returns
returns g c =
    let none = drop_all c.loop-text.text-index c.args.texts.now c.loop-text-test.false in
    leads_done g.S.Sink.takes c.loop-text.invariant.1 (subst (λ l. QuotesItems c.loop-text.lead.now (map string_bytes l) []) (sym none) refl)
