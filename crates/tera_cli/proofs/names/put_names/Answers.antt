use Rattle.std.proofs.Common.{rules, refl, ◌≡◌, ◌+◌, ◌∷◌, ◌++◌, [], ap, codes, drop, subst, sym, ◌∙◌}
use Rattle.std.proofs.lemmas.List.{drop_more, drop_all}
use Rattle.tera_report.proofs.PutLaws.{leads_on, leads_more, leads_broke, leads_done}
use Rattle.tera_cli.specs.Names.{IsListOf}
use Rattle.tera_cli.proofs.NameLemmas.{list_more, names_in, some_list}
use Rattle.tera_cli.proofs.names.put_names.Goals as goal

pub loop-name-init : goal.loop-name-init
loop-name-init g c = record { done = []; leads = λ rest has. has; took = g.met.W.Sink.nothing _ }

pub loop-name-preserved : goal.loop-name-preserved
loop-name-preserved g c =
    let all = c.args.entries.now in
    let i = c.loop-name.name-index in
    let item = c.loop-name-item.result in
    let left : drop i all ≡ item ∷ drop (i + 1) all = drop_more all i item c.loop-name-test.true ∙ ap (λ v. v ∷ drop (i + 1) all) (sym c.loop-name-item.is) in
    let (first, writes, put) = c.in_ok-put_name.ensures in
    leads_more g.W.Sink.takes g.met.W.Sink.joined (codes "\n") (leads_on g.W.Sink.takes g.met.W.Sink.joined first c.loop-name.invariant put)
    (λ rest has. list_more (drop i all) item (drop (i + 1) all) first rest left writes has) c.in_ok-put.ensures

pub returns-in_err-put_name : goal.returns-in_err-put_name
returns-in_err-put_name g c =
    let all = c.args.entries.now in
    let i = c.loop-name.name-index in
    let item = c.loop-name-item.result in
    let left : drop i all ≡ item ∷ drop (i + 1) all = drop_more all i item c.loop-name-test.true ∙ ap (λ v. v ∷ drop (i + 1) all) (sym c.loop-name-item.is) in
    let later = some_list (names_in (drop (i + 1) all)) in
    let (first, writes, refused) = c.in_err-put_name.ensures in
    let bad = leads_broke g.W.Sink.takes g.W.Sink.fails g.met.W.Sink.failed_later g.met.W.Sink.failed_early first (codes "\n" ++ later.0)
    c.loop-name.invariant (list_more (drop i all) item (drop (i + 1) all) first later.0 left writes later.1) refused in
    search rules

pub returns-in_err-put : goal.returns-in_err-put
returns-in_err-put g c =
    let all = c.args.entries.now in
    let i = c.loop-name.name-index in
    let item = c.loop-name-item.result in
    let left : drop i all ≡ item ∷ drop (i + 1) all = drop_more all i item c.loop-name-test.true ∙ ap (λ v. v ∷ drop (i + 1) all) (sym c.loop-name-item.is) in
    let later = some_list (names_in (drop (i + 1) all)) in
    let (first, writes, put) = c.in_ok-put_name.ensures in
    let bad = leads_broke g.W.Sink.takes g.W.Sink.fails g.met.W.Sink.failed_later g.met.W.Sink.failed_early (codes "\n") later.0
    (leads_on g.W.Sink.takes g.met.W.Sink.joined first c.loop-name.invariant put)
    (list_more (drop i all) item (drop (i + 1) all) first later.0 left writes later.1) c.in_err-put.ensures in
    search rules

pub returns : goal.returns
returns g c =
    let none = drop_all c.loop-name.name-index c.args.entries.now c.loop-name-test.false in
    leads_done g.W.Sink.takes c.loop-name.invariant (subst (λ es. IsListOf (names_in es) []) (sym none) refl)
