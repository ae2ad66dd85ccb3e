-- The page of the text that was read, or why it has none.
use Rattle.std.proofs.Common.{inr, subst}
use Rattle.std.proofs.lemmas.Result.{IfErr-weaker, IfOk-weaker}
use Rattle.std.specs.String.{string_bytes}
use Rattle.tera_render.proofs.render.page_named.Goals as goal
use Rattle.tera_render.specs.Page.{IsFaultOf, IsPage}

pub returns-clause-ok : goal.returns-clause-ok
returns-clause-ok g c =
    let names = c.in_ok-names.names in
    IfOk-weaker c.page_of.result _ _ (λ page is. (
      c.in_ok-text.text,
      names,
      c.in_ok-text.ensures.ok,
      c.in_ok-names.ensures.ok,
      subst (λ text. IsPage text names (string_bytes page)) c.as_str.ensures.value is,
    )) c.page_of.ensures.ok

pub returns-clause-err : goal.returns-clause-err
returns-clause-err g c =
    let names = c.in_ok-names.names in
    IfErr-weaker c.page_of.result _ _ (λ fault is. inr (inr (
      c.in_ok-text.text,
      names,
      c.in_ok-text.ensures.ok,
      c.in_ok-names.ensures.ok,
      subst (λ text. IsFaultOf c.args.page.now text names fault) c.as_str.ensures.value is,
    ))) c.page_of.ensures.err
