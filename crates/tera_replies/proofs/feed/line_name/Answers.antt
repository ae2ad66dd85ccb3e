use Rattle.std.proofs.Common.{◌++◌, codes, append-nil, ap, ◌∙◌}
use Rattle.std.proofs.lemmas.Result.{IfOk-weaker}
use Rattle.tera_replies.proofs.feed.line_name.Goals as goal

pub returns : goal.returns
returns c = IfOk-weaker c.concat.result _ _ (λ name is. is ∙ ap (λ l. codes "line " ++ l) (append-nil c.format.result.now ∙ c.format.ensures.text))
    c.concat.ensures.ok
