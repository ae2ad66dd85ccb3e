use Rattle.std.proofs.Common.{rules, refl, ◌++◌, codes}
use Rattle.tera_report.proofs.PutLaws.{puts_after}
use Rattle.tera_script.specs.Written.{inside}
use Rattle.tera_script.proofs.write_text.put_text.Goals as goal

pub returns-in_err-put : goal.returns-in_err-put
returns-in_err-put g c =
    let bad = g.met.S.Sink.failed_early _ (codes "\"") _ (inside c.args.ascii c.args.text.now ++ codes "\"") c.in_err-put.ensures in
    search rules

pub returns-in_err-put_inside : goal.returns-in_err-put_inside
returns-in_err-put_inside g c =
    let inner = inside c.args.ascii c.args.text.now in
    let bad = g.met.S.Sink.failed_early _ (codes "\"" ++ inner) _ (codes "\"")
    (g.met.S.Sink.failed_later _ (codes "\"") _ inner _ c.in_ok-put.ensures c.in_err-put_inside.ensures) in
    search rules

pub returns : goal.returns
returns g c =
    let inner = inside c.args.ascii c.args.text.now in
    let first = g.met.S.Sink.joined _ (codes "\"") _ inner _ c.in_ok-put.ensures c.in_ok-put_inside.ensures in
    puts_after g.S.Sink.takes g.S.Sink.fails g.met.S.Sink.joined g.met.S.Sink.failed_later c.put-2.result
    (codes "\"" ++ inner) (codes "\"") _ _ _ _ refl first c.put-2.ensures
