use Rattle.std.proofs.Common.{inl, inr, refl, subst}
use Rattle.std.proofs.lemmas.Result.{MatchResult-weaker}
use Rattle.tera_report.proofs.PutLaws.{puts_these}
use Rattle.tera_script.specs.Word.{IsName}
use Rattle.tera_cli.specs.Names.{WritesName}
use Rattle.tera_cli.proofs.names.put_name.Goals as goal

pub returns-then-is_name : goal.returns-then-is_name
returns-then-is_name g c =
    let is = subst IsName c.as_bytes.ensures.value c.if-is_name.ensures in
    puts_these g.W.Sink.takes g.W.Sink.fails (WritesName c.args.name.now) c.put.result c.args.name.now _ _ (inl (is, refl)) c.put.ensures

pub returns-else-is_name : goal.returns-else-is_name
returns-else-is_name g c =
    let no = subst (λ name. ¬ IsName name) c.as_bytes.ensures.value c.if-is_name.ensures in
    MatchResult-weaker c.put_quoted.result c.put_quoted.ensures
    (λ _ (bytes, quotes, took). (bytes, inr (no, quotes), took))
    (λ _ (bytes, quotes, bad). (bytes, inr (no, quotes), bad))
