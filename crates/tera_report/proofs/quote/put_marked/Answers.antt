use Rattle.std.proofs.Common.{rules, sym, ap, ◌∙◌, ◌++◌, [], take, drop, encode_utf8_all, arith}
use Rattle.std.specs.Char.Iter.{escape_rest}
use Rattle.tera_report.proofs.PutLaws.{leads_more, leads_broke, leads_done}
use Rattle.tera_report.proofs.QuoteLemmas.{marked_escape}
use Rattle.tera_report.proofs.quote.put_marked.Goals as goal

pub parts-init : goal.parts-init
parts-init g c =
    let made = c.escape_debug-escape.ensures in
    (made.bound, record { done = []; leads = λ rest is. marked_escape c.args.c _ rest c.ranges.c.0 made.rest is; took = g.met.S.Sink.nothing _ })

pub parts-preserved : goal.parts-preserved
parts-preserved g c =
    let is = c.in-Some.ensures.steps.1.0 in
    let spelled = c.encode_utf8.ensures.value in (
      omega arith,
      leads_more g.S.Sink.takes g.met.S.Sink.joined _ c.parts.invariant.1 (λ rest e. (λ i. spelled i ++ e i) ∙ ap encode_utf8_all (sym is)) c.in_ok-put.ensures,
    )

pub returns-in_err-put : goal.returns-in_err-put
returns-in_err-put g c =
    let is = c.in-Some.ensures.steps.1.0 in
    let rest = encode_utf8_all (escape_rest c.next.new.self) in
    let whole = ap (λ l. l ++ rest) c.encode_utf8.ensures.value ∙ ap encode_utf8_all (sym is) in
    let bad = leads_broke g.S.Sink.takes g.S.Sink.fails g.met.S.Sink.failed_later g.met.S.Sink.failed_early _ rest c.parts.invariant.1 whole
    c.in_err-put.ensures in
    search rules

pub returns : goal.returns
returns g c =
    let left = c.parts.escape in
    leads_done g.S.Sink.takes c.parts.invariant.1
    (sym (ap (λ n. encode_utf8_all (take n (drop left.from left.chars))) c.in_default.ensures.steps.1.0))
