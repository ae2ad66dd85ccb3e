use Rattle.std.proofs.Common.{rules, ◌≢◌, sym, ◌∙◌, subst}
use Rattle.std.specs.Prelude.{flat_map}
use Rattle.tera_report.specs.Sink.{PutsThese}
use Rattle.tera_script.proofs.WrittenParts.{plain_char}
use Rattle.tera_script.proofs.write_text.put_character.Goals as goal

pub returns-in_default-2 : goal.returns-in_default-2
returns-in_default-2 g c =
    let x = c.args.c in
    let n34 : x ≢ 34 = search rules in
    let n92 : x ≢ 92 = search rules in
    let n10 : x ≢ 10 = search rules in
    let n13 : x ≢ 13 = search rules in
    let n9 : x ≢ 9 = search rules in
    let n0 : x ≢ 0 = search rules in
    let same = plain_char c.args.ascii x n34 n92 n10 n13 n9 n0 (sym c.is_numbered.ensures ∙ c.if-is_numbered.false) in
    subst (λ l. PutsThese g.S.Sink.takes g.S.Sink.fails c.put-in_default-2.result l c.args.out.now c.put-in_default-2.new.self)
    (c.encode_utf8.ensures.value ∙ same) c.put-in_default-2.ensures
