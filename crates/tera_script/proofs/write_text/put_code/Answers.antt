use Rattle.std.proofs.Common.{rules, refl, sym, ap, ◌∙◌, ◌++◌, [], take, drop, encode_utf8_all, arith}
use Rattle.std.specs.Char.Iter.{escape_rest}
use Rattle.tera_report.proofs.PutLaws.{more_so_far, broke_so_far, all_so_far}
use Rattle.tera_report.proofs.QuoteLaws.{encodes_code}
use Rattle.tera_script.proofs.WrittenTexts.{code_written}
use Rattle.tera_script.proofs.write_text.put_code.Goals as goal

pub parts-init : goal.parts-init
parts-init g c =
    let made = c.escape_unicode-escape.ensures in (
      made.bound,
      record {
        done = [];
        split = ap encode_utf8_all made.rest ∙ encodes_code c.args.c ∙ code_written c.args.c c.ranges.c.0;
        took = g.met.S.Sink.nothing _;
      },
    )

pub parts-preserved : goal.parts-preserved
parts-preserved g c =
    let is = c.in-Some.ensures.steps.1.0 in
    let spelled = c.encode_utf8.ensures.value in
    let rest = encode_utf8_all (escape_rest c.next.new.self) in (
      omega arith,
      more_so_far g.S.Sink.takes g.met.S.Sink.joined _ rest c.parts.invariant.1 (ap (λ l. l ++ rest) spelled ∙ ap encode_utf8_all (sym is)) c.in_ok-put.ensures,
    )

pub returns-in_err-put : goal.returns-in_err-put
returns-in_err-put g c =
    let is = c.in-Some.ensures.steps.1.0 in
    let rest = encode_utf8_all (escape_rest c.next.new.self) in
    let whole = ap (λ l. l ++ rest) c.encode_utf8.ensures.value ∙ ap encode_utf8_all (sym is) in
    let bad = broke_so_far g.S.Sink.takes g.S.Sink.fails g.met.S.Sink.failed_early g.met.S.Sink.failed_later _ rest c.parts.invariant.1 whole
    c.in_err-put.ensures in
    search rules

pub returns : goal.returns
returns g c =
    let left = c.parts.escape in
    all_so_far g.S.Sink.takes c.parts.invariant.1 (ap (λ n. encode_utf8_all (take n (drop left.from left.chars))) c.in_default.ensures.steps.1.0)
