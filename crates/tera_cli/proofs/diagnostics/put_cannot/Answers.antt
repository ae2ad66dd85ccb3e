-- Texts that are put in turn are put as one.
use Rattle.std.proofs.Common.{rules, ◌++◌, codes, ap, ◌∙◌}
use Rattle.std.proofs.lemmas.List.{append_assoc}
use Rattle.tera_report.proofs.PutLaws.{puts_after}
use Rattle.tera_cli.proofs.diagnostics.put_cannot.Goals as goal

pub returns-in_err-put : goal.returns-in_err-put
returns-in_err-put g c =
    let bad = g.met.E.Sink.failed_early _ _ _ (c.args.verb.now ++ (codes " " ++ (c.args.name.now ++ codes "\n"))) c.in_err-put.ensures in
    search rules

pub returns-in_err-put-2 : goal.returns-in_err-put-2
returns-in_err-put-2 g c =
    let bad = g.met.E.Sink.failed_later _ _ _ _ _ c.in_ok-put.ensures
    (g.met.E.Sink.failed_early _ _ _ (codes " " ++ (c.args.name.now ++ codes "\n")) c.in_err-put-2.ensures) in
    search rules

pub returns-in_err-put-3 : goal.returns-in_err-put-3
returns-in_err-put-3 g c =
    let bad = g.met.E.Sink.failed_later _ _ _ _ _ c.in_ok-put.ensures
    (g.met.E.Sink.failed_later _ _ _ _ _ c.in_ok-put-2.ensures
    (g.met.E.Sink.failed_early _ _ _ (c.args.name.now ++ codes "\n") c.in_err-put-3.ensures)) in
    search rules

pub returns-in_err-put-4 : goal.returns-in_err-put-4
returns-in_err-put-4 g c =
    let bad = g.met.E.Sink.failed_later _ _ _ _ _ c.in_ok-put.ensures
    (g.met.E.Sink.failed_later _ _ _ _ _ c.in_ok-put-2.ensures
    (g.met.E.Sink.failed_later _ _ _ _ _ c.in_ok-put-3.ensures
    (g.met.E.Sink.failed_early _ _ _ (codes "\n") c.in_err-put-4.ensures))) in
    search rules

pub returns : goal.returns
returns g c =
    let verb = c.args.verb.now in
    let name = c.args.name.now in
    let joined = g.met.E.Sink.joined in
    puts_after g.E.Sink.takes g.E.Sink.fails joined g.met.E.Sink.failed_later c.put-5.result
    (codes "error: cannot " ++ (verb ++ (codes " " ++ name))) (codes "\n") _ _ _ _
    (append_assoc (codes "error: cannot ") (verb ++ (codes " " ++ name)) (codes "\n")
    ∙ ap (λ xs. codes "error: cannot " ++ xs) (append_assoc verb (codes " " ++ name) (codes "\n")
    ∙ ap (λ xs. verb ++ xs) (append_assoc (codes " ") name (codes "\n"))))
    (joined _ (codes "error: cannot ") _ (verb ++ (codes " " ++ name)) _ c.in_ok-put.ensures
    (joined _ verb _ (codes " " ++ name) _ c.in_ok-put-2.ensures (joined _ (codes " ") _ name _ c.in_ok-put-3.ensures c.in_ok-put-4.ensures)))
    c.put-5.ensures
