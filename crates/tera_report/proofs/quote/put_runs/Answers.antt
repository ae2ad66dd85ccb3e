use Rattle.std.proofs.Common.{rules, ◌++◌, [], encode_utf8}
use Rattle.tera_report.specs.Quoted.{escapes, Escapes}
use Rattle.tera_report.proofs.PutLaws.{leads_on, leads_more, leads_broke, leads_last, puts_these}
use Rattle.tera_report.proofs.QuoteLaws.{escapes_by_rule, escapes_itself}
use Rattle.tera_report.proofs.QuoteLemmas.{run_stands}
use Rattle.tera_report.proofs.quote.put_runs.Goals as goal

pub runs-init : goal.runs-init
runs-init g c = (search rules, record { done = []; leads = λ rest has. has; took = g.met.S.Sink.nothing _ })

pub runs-preserved : goal.runs-preserved
runs-preserved g c =
    let run = c.in-Some.run'.now in
    let (bytes, stands, marked) = c.in_ok-put_marked.ensures in
    let first = leads_on g.S.Sink.takes g.met.S.Sink.joined run c.runs.invariant.1 c.in_ok-put.ensures in (
      search rules,
      leads_more g.S.Sink.takes g.met.S.Sink.joined bytes first (run_stands c.runs.rest.now run _ bytes c.in-Some.marked c.in-Some.ensures.cut stands) marked,
    )

pub returns-in_err-put : goal.returns-in_err-put
returns-in_err-put g c =
    let after = c.in-Some.after.now in
    let bytes = escapes (encode_utf8 c.in-Some.marked) in
    let itself = escapes_by_rule (encode_utf8 c.in-Some.marked) in
    let stands = run_stands c.runs.rest.now c.in-Some.run'.now after bytes c.in-Some.marked c.in-Some.ensures.cut (λ _. itself) (escapes after)
    (escapes_by_rule after) in
    let bad = leads_broke g.S.Sink.takes g.S.Sink.fails g.met.S.Sink.failed_later g.met.S.Sink.failed_early _ (bytes ++ escapes after) c.runs.invariant.1 stands
    c.in_err-put.ensures in
    search rules

pub returns-in_err-put_marked : goal.returns-in_err-put_marked
returns-in_err-put_marked g c =
    let run = c.in-Some.run'.now in
    let after = c.in-Some.after.now in
    let (bytes, stands, refused) = c.in_err-put_marked.ensures in
    let first = leads_on g.S.Sink.takes g.met.S.Sink.joined run c.runs.invariant.1 c.in_ok-put.ensures in
    let bad = leads_broke g.S.Sink.takes g.S.Sink.fails g.met.S.Sink.failed_later g.met.S.Sink.failed_early bytes (escapes after) first
    (run_stands c.runs.rest.now run after bytes c.in-Some.marked c.in-Some.ensures.cut stands (escapes after) (escapes_by_rule after)) refused in
    search rules

pub returns : goal.returns
returns g c =
    let rest = c.runs.rest.now in
    leads_last g.S.Sink.takes g.S.Sink.fails g.met.S.Sink.failed_later g.met.S.Sink.joined _ c.put-2.result c.runs.invariant.1
    (puts_these g.S.Sink.takes g.S.Sink.fails (Escapes rest) _ rest _ _ (escapes_itself rest c.in_default.ensures.plain) c.put-2.ensures)
