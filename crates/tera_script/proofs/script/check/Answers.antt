use Rattle.std.proofs.Common.{◌≡◌, ◌+◌, ◌∷◌, ap, drop, sym, ◌∙◌}
use Rattle.std.proofs.lemmas.List.{drop_more, drop_all}
use Rattle.tera_script.proofs.SavedChecks.{all_have, comes_next, deeper, goes_on, shallow}
use Rattle.tera_script.proofs.script.check.Goals as goal

pub loop-name-preserved : goal.loop-name-preserved
loop-name-preserved g c =
    let all = c.args.entries.now in
    let i = c.loop-name.name-index in
    let item = c.loop-name-item.result in
    let left : drop i all ≡ item ∷ drop (i + 1) all = drop_more all i item c.loop-name-test.true ∙ ap (λ v. v ∷ drop (i + 1) all) (sym c.loop-name-item.is) in
    goes_on all (drop i all) (drop (i + 1) all) item left c.loop-name.invariant (c.if-not-is_name.ensures, shallow _ (sym c.if-not-fits.ensures))

pub returns-then-not-is_name : goal.returns-then-not-is_name
returns-then-not-is_name g c =
    let all = c.args.entries.now in
    let i = c.loop-name.name-index in
    let item = c.loop-name-item.result in
    let left : drop i all ≡ item ∷ drop (i + 1) all = drop_more all i item c.loop-name-test.true ∙ ap (λ v. v ∷ drop (i + 1) all) (sym c.loop-name-item.is) in
    (item.1.now, comes_next all (drop i all) (drop (i + 1) all) item left c.loop-name.invariant, c.if-not-is_name.ensures)

pub returns-then-not-fits : goal.returns-then-not-fits
returns-then-not-fits g c =
    let all = c.args.entries.now in
    let i = c.loop-name.name-index in
    let item = c.loop-name-item.result in
    let left : drop i all ≡ item ∷ drop (i + 1) all = drop_more all i item c.loop-name-test.true ∙ ap (λ v. v ∷ drop (i + 1) all) (sym c.loop-name-item.is) in (
      item.1.now,
      comes_next all (drop i all) (drop (i + 1) all) item left c.loop-name.invariant,
      c.if-not-is_name.ensures,
      deeper _ (sym c.if-not-fits.ensures),
    )

pub returns : goal.returns
returns g c = all_have c.args.entries.now _ (drop_all c.loop-name.name-index c.args.entries.now c.loop-name-test.false) c.loop-name.invariant
