use Rattle.std.proofs.Common.{◌≡◌, ◌++◌, ap, sym, ◌∙◌}
use Rattle.std.proofs.lemmas.Bool.{eqb-false, eqb-true}
use Rattle.std.proofs.lemmas.Result.{IfOk-weaker}
use Rattle.std.specs.String.{string_bytes}
use Rattle.tera_filters.proofs.Cut.{before, longer, no_longer}
use Rattle.tera_filters.proofs.parts.truncated.Goals as goal
use Rattle.tera_filters.specs.Parts.{truncated}

pub overflow_sub-text : goal.overflow_sub-text
overflow_sub-text c = (before _ _ c.args.length c.utf8.text c.behind-rest.utf8 c.behind-rest.ensures).0

pub split_at-requires : goal.split_at-requires
split_at-requires c = (before _ _ c.args.length c.utf8.text c.behind-rest.utf8 c.behind-rest.ensures).1

pub returns-then-is_empty : goal.returns-then-is_empty
returns-then-is_empty c =
    let text = c.args.text.now in
    let none = eqb-true _ 0 (sym c.is_empty.ensures ∙ c.if-is_empty.true) in
    IfOk-weaker c.from_str.result (λ t. string_bytes t ≡ text) (λ t. string_bytes t ≡ truncated c.args.length c.args.end.now text)
    (λ t is. is ∙ no_longer text c.behind-rest.result.now c.args.end.now c.args.length none c.behind-rest.ensures) c.from_str.ensures.ok

pub returns : goal.returns
returns c =
    let text = c.args.text.now in
    let end = c.args.end.now in
    let front = (before _ _ c.args.length c.utf8.text c.behind-rest.utf8 c.behind-rest.ensures).2 in
    longer text c.behind-rest.result.now end (string_bytes c.push_str.new.self) c.args.length c.behind-rest.utf8
    (eqb-false _ 0 (sym c.is_empty.ensures ∙ c.if-is_empty.false)) c.behind-rest.ensures
    (c.in_ok-push_str.ensures.bytes ∙ ap (λ l. l ++ end) (c.in_ok-made.ensures.ok ∙ c.split_at.ensures.front ∙ front))
