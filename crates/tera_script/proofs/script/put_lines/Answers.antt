use Rattle.std.proofs.Common.{rules, ◌≡◌, ◌+◌, ◌∷◌, ◌++◌, ap, codes, drop, sym, ◌∙◌}
use Rattle.std.proofs.lemmas.List.{drop_more, drop_all}
use Rattle.tera_report.proofs.PutLaws.{all_so_far, broke_so_far, more_so_far}
use Rattle.tera_context.specs.Context.{lent_entries}
use Rattle.tera_script.specs.Saved.{script_of, set_line}
use Rattle.tera_script.proofs.script.put_lines.Goals as goal

pub loop-name-preserved : goal.loop-name-preserved
loop-name-preserved g c =
    let all = c.args.entries.now in
    let i = c.loop-name.name-index in
    let item = c.loop-name-item.result in
    let left : drop i all ≡ item ∷ drop (i + 1) all = drop_more all i item c.loop-name-test.true ∙ ap (λ v. v ∷ drop (i + 1) all) (sym c.loop-name-item.is) in
    more_so_far g.S.Sink.takes g.met.S.Sink.joined (set_line c.args.ascii (item.0.now, item.1.now) ++ codes "\n")
    (script_of c.args.ascii (lent_entries (drop (i + 1) all))) c.loop-name.invariant
    (sym (ap (λ es. script_of c.args.ascii (lent_entries es)) left)) c.in_ok-put_line.ensures

pub returns-in_err-put_line : goal.returns-in_err-put_line
returns-in_err-put_line g c =
    let all = c.args.entries.now in
    let i = c.loop-name.name-index in
    let item = c.loop-name-item.result in
    let left : drop i all ≡ item ∷ drop (i + 1) all = drop_more all i item c.loop-name-test.true ∙ ap (λ v. v ∷ drop (i + 1) all) (sym c.loop-name-item.is) in
    let bad = broke_so_far g.S.Sink.takes g.S.Sink.fails g.met.S.Sink.failed_early g.met.S.Sink.failed_later
    (set_line c.args.ascii (item.0.now, item.1.now) ++ codes "\n") (script_of c.args.ascii (lent_entries (drop (i + 1) all))) c.loop-name.invariant
    (sym (ap (λ es. script_of c.args.ascii (lent_entries es)) left)) c.in_err-put_line.ensures in
    search rules

pub returns : goal.returns
returns g c =
    all_so_far g.S.Sink.takes c.loop-name.invariant
    (ap (λ es. script_of c.args.ascii (lent_entries es)) (drop_all c.loop-name.name-index c.args.entries.now c.loop-name-test.false))
