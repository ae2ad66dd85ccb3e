use Rattle.std.proofs.Common.{rules, refl, ◌++◌, codes}
use Rattle.tera_report.proofs.PutLaws.{puts_after}
use Rattle.tera_script.specs.Written.{bytes_literal}
use Rattle.tera_script.proofs.write.put_bytes.Goals as goal

pub returns-in_err-put : goal.returns-in_err-put
returns-in_err-put g c =
    let bad = g.met.S.Sink.failed_early _ (codes "x\"") _ (bytes_literal c.args.held.now ++ codes "\"") c.in_err-put.ensures in
    search rules

pub returns-in_err-put_hex : goal.returns-in_err-put_hex
returns-in_err-put_hex g c =
    let inner = bytes_literal c.args.held.now in
    let bad = g.met.S.Sink.failed_early _ (codes "x\"" ++ inner) _ (codes "\"")
    (g.met.S.Sink.failed_later _ (codes "x\"") _ inner _ c.in_ok-put.ensures c.in_err-put_hex.ensures) in
    search rules

pub returns : goal.returns
returns g c =
    let inner = bytes_literal c.args.held.now in
    let first = g.met.S.Sink.joined _ (codes "x\"") _ inner _ c.in_ok-put.ensures c.in_ok-put_hex.ensures in
    puts_after g.S.Sink.takes g.S.Sink.fails g.met.S.Sink.joined g.met.S.Sink.failed_later c.put-2.result
    (codes "x\"" ++ inner) (codes "\"") _ _ _ _ refl first c.put-2.ensures
