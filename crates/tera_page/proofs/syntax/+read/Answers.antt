-- By the lemmas on what is spelled one thing behind the other.
use Rattle.std.proofs.Common.{◌≡◌, ◌<◌, true, length, ◌++◌, ◌∷◌, [], inl, inr, refl, ap, sym, subst, ◌∙◌, arith, rules}
use Rattle.std.proofs.lemmas.Result.{IfErr-weaker, IfOk-weaker}
use Rattle.tera_page.proofs.Endings.{behind_parts, behind_tag, ends_more}
use Rattle.tera_page.proofs.Faults.{ends_whole, exit_fault, fault_more}
use Rattle.tera_page.proofs.Spelled.{else_elif, ends_at, next_choice, next_comment, next_loop, next_set, next_show, next_text, plain_left, spelled_more}
use Rattle.tera_page.proofs.Views.{part-For, part-If}
use Rattle.tera_page.proofs.syntax.+read.Goals as goal
use Rattle.tera_page.specs.Grammar as grammar
use Rattle.tera_page.specs.Grammar.{SpellsEnd, SpellsElse, SpellsTag, SpellsUpTo, else_tag, elif_tag}
use Rattle.tera_page.specs.Reading.{IsLastStep, IsStep, end_tag, rest_of}
use Rattle.tera_page.specs.Tokens.{IsLastRun, SpellsToken, tag_of}
use Rattle.tera_page.specs.View.{bound_of, parts_of, written_of}
use Rattle.tera_page.specs.declared.fault.Fault.TheVariants.{Memory}

pub read_else-returns-clause-spells : goal.read_else-returns-clause-spells
read_else-returns-clause-spells t c stops =
    let left = c.args.at.now in
    let node = c.in_ok-node.node in
    let said = c.in-Some.next.now in
    let rest = c.in_ok-node.rest.now in
    let tag = ends_at c.args.stop (elif_tag said) left c.args.rest.now c.in-Some.ensures stops in
    let alone : c.push.new.self.items ≡ node ∷ [] =
    c.in_ok-push.ensures.items ∙ ap (λ l. l ++ node ∷ []) c.new-otherwise.ensures.items in
    subst (λ l. SpellsElse (parts_of l) left rest) (sym alone) (else_elif said node left c.args.rest.now rest tag c.in_ok-node.ensures.read)

pub read_else-returns-in_default-clause-spells : goal.read_else-returns-in_default-clause-spells
read_else-returns-in_default-clause-spells t c =
    IfOk-weaker c.read_end.result _ _ (λ read ends stops. grammar.last (parts_of read.0.items) c.args.at.now read.1.now (ends stops))
    c.read_end.ensures.spells

pub read_end-returns-then-is_end-clause-spells : goal.read_end-returns-then-is_end-clause-spells
read_end-returns-then-is_end-clause-spells t c stops =
    let left = c.args.at.now in
    let rest = c.args.rest.now in
    let tag = ends_at c.args.stop (end_tag c.args.end) left rest (c.is_end.ensures c.if-is_end.true) stops in
    subst (λ l. SpellsEnd (end_tag c.args.end) (parts_of l) left rest) (sym c.new.ensures.items) (grammar.ended (end_tag c.args.end) left rest tag)

pub read_end-returns-then-is_end-2-clause-spells : goal.read_end-returns-then-is_end-2-clause-spells
read_end-returns-then-is_end-2-clause-spells t c stops =
    let left = c.args.at.now in
    let read = c.in_ok-nodes.field-0 in
    let yes : c.is_else.result ≡ true = search rules in
    let tag = ends_at c.args.stop else_tag left c.args.rest.now (c.is_else.ensures yes) stops in
    let (inside, at_end) = c.in_ok-nodes.ensures.ok in
    grammar.otherwise (end_tag c.args.end) (parts_of read.nodes.items) left c.args.rest.now read.at.now read.rest.now tag inside
    (ends_at read.stop (end_tag c.args.end) read.at.now read.rest.now (c.is_end-2.ensures c.if-is_end-2.true) at_end)

pub read_node-returns-in-Run-clause-ok : goal.read_node-returns-in-Run-clause-ok
read_node-returns-in-Run-clause-ok t c =
    let token = subst (λ t. SpellsToken t c.args.text.now c.in-Some.rest.now) c.in-Run.is c.in-Some.ensures.spelled in
    next_text c.args.text.now c.in-Some.rest.now c.in-Run.run' token

pub read_node-returns-in-Comment-clause-ok : goal.read_node-returns-in-Comment-clause-ok
read_node-returns-in-Comment-clause-ok t c =
    let token = subst (λ t. SpellsToken t c.args.text.now c.in-Some.rest.now) c.in-Comment.is c.in-Some.ensures.spelled in
    next_comment c.args.text.now c.in-Some.rest.now c.in-Comment.said token

pub read_node-returns-in_ok-written-in-Show-clause-ok : goal.read_node-returns-in_ok-written-in-Show-clause-ok
read_node-returns-in_ok-written-in-Show-clause-ok t c =
    let token = subst (λ t. SpellsToken t c.args.text.now c.in-Some.rest.now) c.in-Show.is c.in-Some.ensures.spelled in
    next_show c.args.text.now c.in-Some.rest.now c.in_ok-written-in-Show.written c.in-Show.how c.in-Show.said.now c.in_ok-written-in-Show.ensures.ok token

pub read_node-returns-in-Tag-clause-ok : goal.read_node-returns-in-Tag-clause-ok
read_node-returns-in-Tag-clause-ok t c =
    let token = subst (λ t. SpellsToken t c.args.text.now c.in-Some.rest.now) c.in-Tag.is c.in-Some.ensures.spelled in
    IfOk-weaker c.read_tag.result _ _ (λ step steps. steps token) c.read_tag.ensures.step

pub read_node-returns-in-Run-clause-plain : goal.read_node-returns-in-Run-clause-plain
read_node-returns-in-Run-clause-plain t c plain some = subst (λ t. IsLastRun t c.in-Some.rest.now) c.in-Run.is (c.in-Some.ensures.plain plain some)

pub read_node-returns-in-Comment-clause-plain : goal.read_node-returns-in-Comment-clause-plain
read_node-returns-in-Comment-clause-plain t c plain some =
    absurd (subst (λ t. IsLastRun t c.in-Some.rest.now) c.in-Comment.is (c.in-Some.ensures.plain plain some))

pub read_node-returns-in_ok-written-in-Show-clause-plain : goal.read_node-returns-in_ok-written-in-Show-clause-plain
read_node-returns-in_ok-written-in-Show-clause-plain t c plain some =
    absurd (subst (λ t. IsLastRun t c.in-Some.rest.now) c.in-Show.is (c.in-Some.ensures.plain plain some))

pub read_node-returns-in_err-written-in-Show-clause-plain : goal.read_node-returns-in_err-written-in-Show-clause-plain
read_node-returns-in_err-written-in-Show-clause-plain t c plain some =
    absurd (subst (λ t. IsLastRun t c.in-Some.rest.now) c.in-Show.is (c.in-Some.ensures.plain plain some))

pub read_for-returns-clause-read : goal.read_for-returns-clause-read
read_for-returns-clause-read t c =
    let f = c.in_ok-nodes.field-0 in
    let (inside, stops) = c.in_ok-nodes.ensures.ok in (
      written_of c.in_ok-over.over,
      parts_of f.nodes.items,
      parts_of c.in_ok-otherwise.otherwise.items,
      f.at.now,
      c.in_ok-over.ensures.ok,
      part-For c.args.bound c.in_ok-over.over f.nodes c.in_ok-otherwise.otherwise,
      inside,
      c.in_ok-otherwise.ensures.spells stops,
    )

pub read_if-returns-clause-read : goal.read_if-returns-clause-read
read_if-returns-clause-read t c =
    let f = c.in_ok-nodes.field-0 in
    let (inside, stops) = c.in_ok-nodes.ensures.ok in (
      written_of c.in_ok-test.test,
      parts_of f.nodes.items,
      parts_of c.in_ok-otherwise.otherwise.items,
      f.at.now,
      c.in_ok-test.ensures.ok,
      part-If c.in_ok-test.test f.nodes c.in_ok-otherwise.otherwise,
      inside,
      c.in_ok-otherwise.ensures.spells stops,
    )

pub read_node-returns-in-Tag-clause-plain : goal.read_node-returns-in-Tag-clause-plain
read_node-returns-in-Tag-clause-plain t c plain some =
    absurd (subst (λ t. IsLastRun t c.in-Some.rest.now) c.in-Tag.is (c.in-Some.ensures.plain plain some))

pub read_tag-returns-in_ok-node-in-If-clause-step : goal.read_tag-returns-in_ok-node-in-If-clause-step
read_tag-returns-in_ok-node-in-If-clause-step t c spells =
    next_choice c.args.from.now c.in_ok-node-in-If.rest.now c.in-If.said.now c.in_ok-node-in-If.node c.args.rest.now
    (subst (λ t. SpellsTag (tag_of t) c.args.from.now c.args.rest.now) c.in-If.is spells) c.in_ok-node-in-If.ensures.read

pub read_tag-returns-in_ok-node-in-For-clause-step : goal.read_tag-returns-in_ok-node-in-For-clause-step
read_tag-returns-in_ok-node-in-For-clause-step t c spells =
    next_loop c.args.from.now c.in_ok-node-in-For.rest.now (bound_of c.in-For.bound) c.in-For.said.now c.in_ok-node-in-For.node c.args.rest.now
    (subst (λ t. SpellsTag (tag_of t) c.args.from.now c.args.rest.now) c.in-For.is spells) c.in_ok-node-in-For.ensures.read

pub read_tag-returns-in_ok-written-in-Set-clause-step : goal.read_tag-returns-in_ok-written-in-Set-clause-step
read_tag-returns-in_ok-written-in-Set-clause-step t c spells =
    next_set c.args.from.now c.args.rest.now c.in-Set.name c.in_ok-written-in-Set.written c.in-Set.said.now c.in_ok-written-in-Set.ensures.ok
    (subst (λ t. SpellsTag (tag_of t) c.args.from.now c.args.rest.now) c.in-Set.is spells)

pub read_nodes-parts-init : goal.read_nodes-parts-init
read_nodes-parts-init t c =
    let none = subst (λ l. SpellsUpTo (parts_of l) c.args.text.now c.args.text.now) (sym c.new-nodes.ensures.items)
    (grammar.nothing c.args.text.now c.args.text.now refl) in
    (search rules, none, search rules, λ plain. inr refl)

pub read_nodes-parts-preserved : goal.read_nodes-parts-preserved
read_nodes-parts-preserved t c =
    let part = subst (λ s. IsStep s c.parts.rest.now) c.in-Node.is c.in_ok-node.ensures.ok in
    let more = subst (λ l. SpellsUpTo (parts_of l) c.args.text.now c.in-Node.after.now) (sym c.in_ok-push-in-Node.ensures.items)
    (spelled_more c.parts.nodes.items c.in-Node.node c.args.text.now c.parts.rest.now c.in-Node.after.now c.parts.invariant.1 part) in
    let short = subst (λ s. length (rest_of s) < length c.parts.rest.now) c.in-Node.is c.in_ok-node.ensures.shorter in
    let some : 0 < length c.parts.rest.now = search rules in (
      search rules,
      more,
      omega (arith, short, c.parts.invariant.2),
      λ plain. inl (subst IsLastStep c.in-Node.is (c.in_ok-node.ensures.plain (plain_left c.args.text.now c.parts.rest.now plain
          (c.parts.invariant.3 plain)) some)),
    )

pub read_nodes-returns-in-Stop-clause-plain : goal.read_nodes-returns-in-Stop-clause-plain
read_nodes-returns-in-Stop-clause-plain t c plain =
    let some : 0 < length c.parts.rest.now = search rules in
    absurd (subst IsLastStep c.in-Stop.is (c.in_ok-node.ensures.plain (plain_left c.args.text.now c.parts.rest.now plain (c.parts.invariant.3 plain)) some))

pub read_nodes-returns-in-Stop-clause-within : goal.read_nodes-returns-in-Stop-clause-within
read_nodes-returns-in-Stop-clause-within t c =
    let short = subst (λ s. length (rest_of s) < length c.parts.rest.now) c.in-Stop.is c.in_ok-node.ensures.shorter in
    omega (arith, short, c.parts.invariant.2)

pub read_node-returns-in-Tag-clause-shorter : goal.read_node-returns-in-Tag-clause-shorter
read_node-returns-in-Tag-clause-shorter t c =
    IfOk-weaker c.read_tag.result _ _ (λ step within. omega (arith, within, c.in-Some.ensures.shorter)) c.read_tag.ensures.within

-- what is not read stands in the text

pub read_else-returns-in_default-clause-err : goal.read_else-returns-in_default-clause-err
read_else-returns-in_default-clause-err t c = c.read_end.ensures.err

pub read_else-returns-in_err-node-clause-err : goal.read_else-returns-in_err-node-clause-err
read_else-returns-in_err-node-clause-err t c =
    let tag = elif_tag c.in-Some.next.now in
    exit_fault c.from_residual.result _ c.in_err-node.field-0.0 c.from_residual.ensures
    (λ stops. c.in_err-node.ensures.err (behind_tag tag c.args.at.now c.args.rest.now
    (ends_at c.args.stop tag c.args.at.now c.args.rest.now c.in-Some.ensures stops)))

pub read_else-returns-in_err-push-clause-err : goal.read_else-returns-in_err-push-clause-err
read_else-returns-in_err-push-clause-err t c =
    exit_fault c.from_residual-in_err-push.result _ Memory c.from_residual-in_err-push.ensures (λ stops. tt)

pub read_end-returns-then-not-is_else-clause-err : goal.read_end-returns-then-not-is_else-clause-err
read_end-returns-then-not-is_else-clause-err t c = λ stops. ends_whole c.args.at.now

pub read_end-returns-in_err-nodes-clause-err : goal.read_end-returns-in_err-nodes-clause-err
read_end-returns-in_err-nodes-clause-err t c =
    let left = c.args.at.now in
    let rest = c.args.rest.now in
    let fault = c.in_err-nodes.field-0.0 in
    let yes : c.is_else.result ≡ true = search rules in
    exit_fault c.from_residual.result _ fault c.from_residual.ensures
    (λ stops. fault_more left rest fault (behind_tag else_tag left rest (ends_at c.args.stop else_tag left rest (c.is_else.ensures yes) stops))
    c.in_err-nodes.ensures.err)

pub read_end-returns-clause-err : goal.read_end-returns-clause-err
read_end-returns-clause-err t c stops =
    let left = c.args.at.now in
    let rest = c.args.rest.now in
    let read = c.in_ok-nodes.field-0 in
    let yes : c.is_else.result ≡ true = search rules in
    ends_more left rest read.at.now (behind_tag else_tag left rest (ends_at c.args.stop else_tag left rest (c.is_else.ensures yes) stops))
    (behind_parts (parts_of read.nodes.items) rest read.at.now c.in_ok-nodes.ensures.ok.0)

pub read_for-returns-then-levels-eq0-clause-err : goal.read_for-returns-then-levels-eq0-clause-err
read_for-returns-then-levels-eq0-clause-err t c = λ ends. ends_whole c.args.from.now

pub read_for-returns-in_err-over-clause-err : goal.read_for-returns-in_err-over-clause-err
read_for-returns-in_err-over-clause-err t c =
    exit_fault c.from_residual.result _ c.in_err-over.field-0.0 c.from_residual.ensures (λ ends. c.in_err-over.ensures.err)

pub read_for-returns-in_err-nodes-clause-err : goal.read_for-returns-in_err-nodes-clause-err
read_for-returns-in_err-nodes-clause-err t c =
    let fault = c.in_err-nodes.field-0.0 in
    exit_fault c.from_residual-in_err-nodes.result _ fault c.from_residual-in_err-nodes.ensures
    (λ ends. fault_more c.args.from.now c.args.text.now fault ends c.in_err-nodes.ensures.err)

pub read_for-returns-in_err-otherwise-clause-err : goal.read_for-returns-in_err-otherwise-clause-err
read_for-returns-in_err-otherwise-clause-err t c =
    let f = c.in_ok-nodes.field-0 in
    let (inside, stops) = c.in_ok-nodes.ensures.ok in
    let fault = c.in_err-otherwise.field-0.0 in
    exit_fault c.from_residual-in_err-otherwise.result _ fault c.from_residual-in_err-otherwise.ensures
    (λ ends. fault_more c.args.from.now f.at.now fault (ends_more c.args.from.now c.args.text.now f.at.now ends
    (behind_parts (parts_of f.nodes.items) c.args.text.now f.at.now inside)) (c.in_err-otherwise.ensures.err stops))

pub read_if-returns-then-levels-eq0-clause-err : goal.read_if-returns-then-levels-eq0-clause-err
read_if-returns-then-levels-eq0-clause-err t c = λ ends. ends_whole c.args.from.now

pub read_if-returns-in_err-test-clause-err : goal.read_if-returns-in_err-test-clause-err
read_if-returns-in_err-test-clause-err t c =
    exit_fault c.from_residual.result _ c.in_err-test.field-0.0 c.from_residual.ensures (λ ends. c.in_err-test.ensures.err)

pub read_if-returns-in_err-nodes-clause-err : goal.read_if-returns-in_err-nodes-clause-err
read_if-returns-in_err-nodes-clause-err t c =
    let fault = c.in_err-nodes.field-0.0 in
    exit_fault c.from_residual-in_err-nodes.result _ fault c.from_residual-in_err-nodes.ensures
    (λ ends. fault_more c.args.from.now c.args.text.now fault ends c.in_err-nodes.ensures.err)

pub read_if-returns-in_err-otherwise-clause-err : goal.read_if-returns-in_err-otherwise-clause-err
read_if-returns-in_err-otherwise-clause-err t c =
    let f = c.in_ok-nodes.field-0 in
    let (inside, stops) = c.in_ok-nodes.ensures.ok in
    let fault = c.in_err-otherwise.field-0.0 in
    exit_fault c.from_residual-in_err-otherwise.result _ fault c.from_residual-in_err-otherwise.ensures
    (λ ends. fault_more c.args.from.now f.at.now fault (ends_more c.args.from.now c.args.text.now f.at.now ends
    (behind_parts (parts_of f.nodes.items) c.args.text.now f.at.now inside)) (c.in_err-otherwise.ensures.err stops))

pub read_node-returns-in_default-clause-err : goal.read_node-returns-in_default-clause-err
read_node-returns-in_default-clause-err t c = ends_whole c.args.text.now

pub read_node-returns-in_err-written-in-Show-clause-err : goal.read_node-returns-in_err-written-in-Show-clause-err
read_node-returns-in_err-written-in-Show-clause-err t c =
    exit_fault c.from_residual.result _ c.in_err-written-in-Show.field-0.0 c.from_residual.ensures c.in_err-written-in-Show.ensures.err

pub read_node-returns-in-Tag-clause-err : goal.read_node-returns-in-Tag-clause-err
read_node-returns-in-Tag-clause-err t c =
    let token = subst (λ t. SpellsToken t c.args.text.now c.in-Some.rest.now) c.in-Tag.is c.in-Some.ensures.spelled in
    IfErr-weaker c.read_tag.result _ _ (λ fault faults. faults token) c.read_tag.ensures.err

pub read_nodes-returns-in_err-node-clause-err : goal.read_nodes-returns-in_err-node-clause-err
read_nodes-returns-in_err-node-clause-err t c =
    let fault = c.in_err-node.field-0.0 in
    exit_fault c.from_residual.result _ fault c.from_residual.ensures
    (fault_more c.args.text.now c.parts.rest.now fault (behind_parts (parts_of c.parts.nodes.items) c.args.text.now c.parts.rest.now c.parts.invariant.1)
    c.in_err-node.ensures.err)

pub read_nodes-returns-in_err-push-in-Node-clause-err : goal.read_nodes-returns-in_err-push-in-Node-clause-err
read_nodes-returns-in_err-push-in-Node-clause-err t c =
    exit_fault c.from_residual-in_err-push-in-Node.result _ Memory c.from_residual-in_err-push-in-Node.ensures tt

pub read_tag-returns-in_err-node-in-If-clause-err : goal.read_tag-returns-in_err-node-in-If-clause-err
read_tag-returns-in_err-node-in-If-clause-err t c =
    exit_fault c.from_residual.result _ c.in_err-node-in-If.field-0.0 c.from_residual.ensures
    (λ spells. c.in_err-node-in-If.ensures.err (behind_tag (tag_of c.args.tag) c.args.from.now c.args.rest.now spells))

pub read_tag-returns-in_err-node-in-For-clause-err : goal.read_tag-returns-in_err-node-in-For-clause-err
read_tag-returns-in_err-node-in-For-clause-err t c =
    exit_fault c.from_residual-in_err-node-in-For.result _ c.in_err-node-in-For.field-0.0 c.from_residual-in_err-node-in-For.ensures
    (λ spells. c.in_err-node-in-For.ensures.err (behind_tag (tag_of c.args.tag) c.args.from.now c.args.rest.now spells))

pub read_tag-returns-in_err-written-in-Set-clause-err : goal.read_tag-returns-in_err-written-in-Set-clause-err
read_tag-returns-in_err-written-in-Set-clause-err t c =
    exit_fault c.from_residual-in_err-written-in-Set.result _ c.in_err-written-in-Set.field-0.0 c.from_residual-in_err-written-in-Set.ensures
    (λ spells. c.in_err-written-in-Set.ensures.err)
