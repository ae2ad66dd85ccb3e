-- Inside an array or a map a text is quoted, and all else prints as by itself.
use Rattle.std.proofs.lemmas.Result.{MatchResult-weaker}
use Rattle.tera_values.proofs.PrintLemmas.{text_inside, other_inside}
use Rattle.tera_values.proofs.print.put_whole_inside.Goals as goal

pub returns-in-Some : goal.returns-in-Some
returns-in-Some g c =
    MatchResult-weaker c.put_quoted.result c.put_quoted.ensures
    (λ _ put. (put.0, text_inside c.args.value.now c.in-Some.text.now put.0 c.in-Some.ensures put.1, put.2))
    (λ _ bad. (bad.0, text_inside c.args.value.now c.in-Some.text.now bad.0 c.in-Some.ensures bad.1, bad.2))

pub returns-in-None : goal.returns-in-None
returns-in-None g c =
    MatchResult-weaker c.put_whole.result c.put_whole.ensures
    (λ _ put. (put.0, other_inside c.args.value.now put.0 c.in-None.ensures put.1, put.2))
    (λ _ bad. (bad.0, other_inside c.args.value.now bad.0 c.in-None.ensures bad.1, bad.2))
