-- A key that is a text is quoted.
use Rattle.std.proofs.lemmas.Result.{MatchResult-weaker}
use Rattle.tera_values.specs.Key.{key_form}
use Rattle.tera_values.proofs.PrintLemmas.{text_key_inside}
use Rattle.tera_values.proofs.print.put_key.Goals as goal

pub returns-in-Some : goal.returns-in-Some
returns-in-Some g c =
    MatchResult-weaker c.put_quoted.result c.put_quoted.ensures
    (λ _ put. (put.0, text_key_inside (key_form c.args.key.now) c.in-Some.text.now put.0 c.in-Some.ensures put.1, put.2))
    (λ _ bad. (bad.0, text_key_inside (key_form c.args.key.now) c.in-Some.text.now bad.0 c.in-Some.ensures bad.1, bad.2))
