use Rattle.std.proofs.Common.{◌++◌, ap, ◌∙◌}
use Rattle.json.specs.Tree.{json_tokens}
use Rattle.tera_json.specs.Written.{document_of}
use Rattle.tera_json.proofs.ReadBack.{read_back}
use Rattle.tera_json.proofs.write.to_json_with.Goals as goal

pub returns-in-Ok-clause-reads_back : goal.returns-in-Ok-clause-reads_back
returns-in-Ok-clause-reads_back c =
    let is = c.in-Ok.ensures.ok ∙ ap (λ ts. ts ++ json_tokens (document_of c.args.value.now)) c.new-out.ensures.tokens in
    read_back c.args.lacking c.args.value.now _ _ c.in-Ok.ensures.fits is c.text_of.ensures.reads_back c.text_of.ensures.text
