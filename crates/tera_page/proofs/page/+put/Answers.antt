-- By the lemmas on pieces that are put one behind the other.
use Rattle.std.proofs.Common.{◌≡◌, ◌≤◌, ◌∷◌, ◌+◌, Ok, [], append-nil, drop, map, true, false, length, refl, ap, sym, subst, ◌∙◌, arith, rules}
use Rattle.std.proofs.lemmas.Result.{on_ok_weaker}
use Rattle.std.specs.Prelude.{IfErr, OnOk}
use Rattle.tera.specs.Growing.{grown_bytes}
use Rattle.tera.specs.Form.{Form}
use Rattle.tera.specs.Key.{key_form, key_value}
use Rattle.tera.specs.KeyMeaning.{KeyForm}
use Rattle.tera_page.proofs.Parts.{choice_fails, item_names, items_fail, loop_fails, pair_names, pairs_fail, shows_each}
use Rattle.tera_page.proofs.Parts.{shows_otherwise, turns_fail, value_fails_loop}
use Rattle.tera_page.proofs.Turns.{Goes, goes_on, goes_wrong, goes_last, left_within, made_count, next_left, next_made, none_left, steps_last}
use Rattle.tera_page.proofs.Turns.{steps_on, steps_wrong, tail_left}
use Rattle.tera_page.proofs.Taken.{shows_taken}
use Rattle.tera_page.proofs.Views.{choice_part, loop_part, none_set, set_part, show_part, state-paired, state-turned}
use Rattle.tera_page.proofs.page.+put.Goals as goal
use Rattle.tera_page.specs.Failures.{Fails}
use Rattle.tera_page.specs.Rendering.{Grows, IsPageOf, Names, after, all_pieces, each, items_of, loop_names, named_items, named_pairs}
use Rattle.tera_page.specs.Rendering.{pairs_of, pieces, placed, turn_names, turns, under}
use Rattle.tera_page.specs.Template.{Parts, item, loop, pair, show}
use Rattle.tera_page.specs.Values.{value_of}
use Rattle.tera_page.specs.View.{bound_of, expression_of, form_of, part_of, parts_of, showing_of, state_of, state_with, written_of}

pub put_nodes-loop-node-preserved : goal.put_nodes-loop-node-preserved
put_nodes-loop-node-preserved t c =
    let put = c.in_ok-put_node.ensures.ok in
    let scope = c.args.scope.now in
    steps_on c.args.nodes.now (state_with scope c.args.names.now) c.loop-node.node-index c.node-item.result (state_with scope c.loop-node.names)
    (state_with scope c.put_node.new.names) (grown_bytes c.args.page.now) (grown_bytes c.loop-node.page) (grown_bytes c.put_node.new.page) put.0
    (next_left c.args.nodes.now c.loop-node.node-index c.node-item.result c.loop-node-test.true c.node-item.is) put.1 put.2
    c.in_ok-put_node.ensures.after c.loop-node.invariant

pub put_nodes-returns-in_err-put_node-clause-err : goal.put_nodes-returns-in_err-put_node-clause-err
put_nodes-returns-in_err-put_node-clause-err t c =
    let failed = c.in_err-put_node.field-0.0 in
    let scope = c.args.scope.now in
    let fails : Fails (all_pieces (parts_of c.args.nodes.now) (state_with scope c.args.names.now)) failed =
    steps_wrong c.args.nodes.now (state_with scope c.args.names.now) c.loop-node.node-index c.node-item.result (state_with scope c.loop-node.names)
    (grown_bytes c.args.page.now) (grown_bytes c.loop-node.page) failed
    (next_left c.args.nodes.now c.loop-node.node-index c.node-item.result c.loop-node-test.true c.node-item.is) c.in_err-put_node.ensures.err
    c.loop-node.invariant in
    search rules

pub put_nodes-returns-clause-ok : goal.put_nodes-returns-clause-ok
put_nodes-returns-clause-ok t c =
    let scope = c.args.scope.now in
    (steps_last c.args.nodes.now (state_with scope c.args.names.now) c.loop-node.node-index (state_with scope c.loop-node.names)
    (grown_bytes c.args.page.now) (grown_bytes c.loop-node.page) (omega (arith, c.loop-node-test.false)) c.loop-node.invariant).0

pub put_nodes-returns-clause-after : goal.put_nodes-returns-clause-after
put_nodes-returns-clause-after t c =
    let scope = c.args.scope.now in
    (steps_last c.args.nodes.now (state_with scope c.args.names.now) c.loop-node.node-index (state_with scope c.loop-node.names)
    (grown_bytes c.args.page.now) (grown_bytes c.loop-node.page) (omega (arith, c.loop-node-test.false)) c.loop-node.invariant).1

pub put_each-loop-at-preserved : goal.put_each-loop-at-preserved
put_each-loop-at-preserved t c =
    let put = c.in_ok-put_body.ensures.ok in
    let state = state_of c.args.scope.now in
    let next = next_left c.args.items.now c.loop-at.at c.index-items-at.result c.loop-at-test.true c.index-items-at.is in
    goes_on (all_pieces (parts_of c.args.body.now)) (turns state (named_items c.args.name.now c.args.items.now)) c.loop-at.at _
    (grown_bytes c.args.page.now) (grown_bytes c.loop-at.page) (grown_bytes c.put_body.new.page) put.0
    (next_made (λ x. (c.args.name.now, x) ∷ []) state c.args.items.now c.index-items-at.result c.loop-at.at next)
    (subst (λ s. IsPageOf (all_pieces (parts_of c.args.body.now) s) put.0)
    (state-turned c.args.name _ _ c.args.scope _ c.loop-at.at (length c.args.items.now) refl (c.new-turn.ensures c.loop-at-test.true)) put.1) put.2
    c.loop-at.invariant

pub put_each-returns-in_err-put_body-clause-err : goal.put_each-returns-in_err-put_body-clause-err
put_each-returns-in_err-put_body-clause-err t c =
    let failed = c.in_err-put_body.field-0.0 in
    let state = state_of c.args.scope.now in
    let body = all_pieces (parts_of c.args.body.now) in
    let owns = named_items c.args.name.now c.args.items.now in
    let next = next_left c.args.items.now c.loop-at.at c.index-items-at.result c.loop-at-test.true c.index-items-at.is in
    let fails : Fails (each body (turns state owns)) failed = goes_wrong body (turns state owns) c.loop-at.at _
    (grown_bytes c.args.page.now) (grown_bytes c.loop-at.page) failed
    (next_made (λ x. (c.args.name.now, x) ∷ []) state c.args.items.now c.index-items-at.result c.loop-at.at next)
    (subst (λ s. Fails (body s) failed)
    (state-turned c.args.name _ _ c.args.scope _ c.loop-at.at (length c.args.items.now) refl (c.new-turn.ensures c.loop-at-test.true))
    c.in_err-put_body.ensures.err)
    c.loop-at.invariant in
    search rules

pub put_each-returns-clause-ok : goal.put_each-returns-clause-ok
put_each-returns-clause-ok t c =
    let state = state_of c.args.scope.now in
    let owns = named_items c.args.name.now c.args.items.now in
    let past : length (turns state owns) ≤ c.loop-at.at =
    omega (arith, c.loop-at-test.false, made_count (λ x. (c.args.name.now, x) ∷ []) state c.args.items.now) in
    goes_last (all_pieces (parts_of c.args.body.now)) (turns state owns) c.loop-at.at (grown_bytes c.args.page.now) (grown_bytes c.loop-at.page)
    past c.loop-at.invariant

pub put_pairs-loop-key-preserved : goal.put_pairs-loop-key-preserved
put_pairs-loop-key-preserved t c =
    let state = state_of c.args.scope.now in
    let body = all_pieces (parts_of c.args.body.now) in
    let pairs = c.args.pairs.now in
    let at = c.loop-key.at in
    let make : KeyForm × Form → Names = λ p. (c.args.name.now, p.1) ∷ (c.args.key_name.now, key_value p.0) ∷ [] in
    let pair : KeyForm × Form = (key_form c.in-Some.key.now, c.in-Some.value.now) in
    let left : drop at pairs ≡ pair ∷ c.next.new.self = c.loop-key.invariant.1 ∙ c.in-Some.ensures.steps in
    let tail = tail_left at pairs pair c.next.new.self left in
    let next : drop at pairs ≡ pair ∷ drop (at + 1) pairs = left ∙ ap (λ l. pair ∷ l) (sym tail) in
    let within = left_within at pairs pair c.next.new.self left in
    let turn = c.new-turn.ensures (omega (arith, within, c.len.ensures.len)) ∙ ap (turn_names at) c.len.ensures.len in
    let seen = state-paired c.args.key_name c.args.name _ _ _ c.args.scope _ _ at (length pairs) refl refl turn
    ∙ ap (λ v. under state ((c.args.name.now, c.in-Some.value.now) ∷ (c.args.key_name.now, v) ∷ turn_names at (length pairs))) c.in_ok-key.ensures.ok in
    let put = c.in_ok-put_body.ensures.ok in
    let more : c.saturating_add-at.result ≡ at + 1 = omega (arith, within, c.len.ensures.len, c.saturating_add-at.ensures) in
    subst (λ n. Goes body (turns state (map make pairs)) n (grown_bytes c.args.page.now) (grown_bytes c.put_body.new.page)
    × (drop n pairs ≡ c.next.new.self)) (sym more) (
      goes_on body (turns state (map make pairs)) at _ (grown_bytes c.args.page.now) (grown_bytes c.loop-key.page)
          (grown_bytes c.put_body.new.page) put.0 (next_made make state pairs pair at next)
          (subst (λ s. IsPageOf (body s) put.0) seen put.1) put.2 c.loop-key.invariant.0,
      tail,
    )

pub put_pairs-returns-clause-ok : goal.put_pairs-returns-clause-ok
put_pairs-returns-clause-ok t c =
    let state = state_of c.args.scope.now in
    let pairs = c.args.pairs.now in
    let make : KeyForm × Form → Names = λ p. (c.args.name.now, p.1) ∷ (c.args.key_name.now, key_value p.0) ∷ [] in
    let none : drop c.loop-key.at pairs ≡ [] = c.loop-key.invariant.1 ∙ c.in-None.ensures.steps.0 in
    let past : length (turns state (map make pairs)) ≤ c.loop-key.at = omega (arith, none_left c.loop-key.at pairs none, made_count make state pairs) in
    goes_last (all_pieces (parts_of c.args.body.now)) (turns state (map make pairs)) c.loop-key.at (grown_bytes c.args.page.now)
    (grown_bytes c.loop-key.page) past c.loop-key.invariant.0

pub put_pairs-returns-in_err-put_body-clause-err : goal.put_pairs-returns-in_err-put_body-clause-err
put_pairs-returns-in_err-put_body-clause-err t c =
    let state = state_of c.args.scope.now in
    let body = all_pieces (parts_of c.args.body.now) in
    let pairs = c.args.pairs.now in
    let at = c.loop-key.at in
    let make : KeyForm × Form → Names = λ p. (c.args.name.now, p.1) ∷ (c.args.key_name.now, key_value p.0) ∷ [] in
    let pair : KeyForm × Form = (key_form c.in-Some.key.now, c.in-Some.value.now) in
    let left : drop at pairs ≡ pair ∷ c.next.new.self = c.loop-key.invariant.1 ∙ c.in-Some.ensures.steps in
    let tail = tail_left at pairs pair c.next.new.self left in
    let next : drop at pairs ≡ pair ∷ drop (at + 1) pairs = left ∙ ap (λ l. pair ∷ l) (sym tail) in
    let within = left_within at pairs pair c.next.new.self left in
    let turn = c.new-turn.ensures (omega (arith, within, c.len.ensures.len)) ∙ ap (turn_names at) c.len.ensures.len in
    let seen = state-paired c.args.key_name c.args.name _ _ _ c.args.scope _ _ at (length pairs) refl refl turn
    ∙ ap (λ v. under state ((c.args.name.now, c.in-Some.value.now) ∷ (c.args.key_name.now, v) ∷ turn_names at (length pairs))) c.in_ok-key.ensures.ok in
    let failed = c.in_err-put_body.field-0.0 in
    let fails : Fails (each body (turns state (map make pairs))) failed = goes_wrong body (turns state (map make pairs)) at _
    (grown_bytes c.args.page.now) (grown_bytes c.loop-key.page) failed (next_made make state pairs pair at next)
    (subst (λ s. Fails (body s) failed) seen c.in_err-put_body.ensures.err) c.loop-key.invariant.0 in
    search rules

pub put_body-returns-clause-ok : goal.put_body-returns-clause-ok
put_body-returns-clause-ok t c =
    subst (λ s. OnOk c.put_nodes.result (Grows (all_pieces (parts_of c.args.nodes.now) s) (grown_bytes c.args.page.now)
    (grown_bytes c.put_nodes.new.page))) (none_set (state_of c.args.scope.now)) c.put_nodes.ensures.ok

pub put_body-returns-clause-err : goal.put_body-returns-clause-err
put_body-returns-clause-err t c =
    subst (λ s. IfErr c.put_nodes.result (Fails (all_pieces (parts_of c.args.nodes.now) s))) (none_set (state_of c.args.scope.now))
    c.put_nodes.ensures.err

pub put_node-returns-in-Show-clause-ok : goal.put_node-returns-in-Show-clause-ok
put_node-returns-in-Show-clause-ok t c =
    let put = c.put_written.result in
    let old = grown_bytes c.args.page.now in
    let new = grown_bytes c.put_written.new.page in
    subst (λ p. OnOk put (Grows (pieces p (state_with c.args.scope.now c.args.names.now)) old new))
    (sym (show_part c.args.node.now c.in-Show.written c.in-Show.how c.in-Show.is))
    (subst (λ s. OnOk put (Grows (pieces (show (written_of c.in-Show.written) (showing_of c.in-Show.how)) s) old new)) c.inside-inner.ensures
    c.put_written.ensures.ok)

pub put_node-returns-in-Show-clause-err : goal.put_node-returns-in-Show-clause-err
put_node-returns-in-Show-clause-err t c =
    let put = c.put_written.result in
    subst (λ p. IfErr put (Fails (pieces p (state_with c.args.scope.now c.args.names.now))))
    (sym (show_part c.args.node.now c.in-Show.written c.in-Show.how c.in-Show.is))
    (subst (λ s. IfErr put (Fails (pieces (show (written_of c.in-Show.written) (showing_of c.in-Show.how)) s))) c.inside-inner.ensures
    c.put_written.ensures.err)

pub put_node-returns-in-Show-clause-after : goal.put_node-returns-in-Show-clause-after
put_node-returns-in-Show-clause-after t c =
    let stays = ap (λ p. after p (state_with c.args.scope.now c.args.names.now)) (show_part c.args.node.now c.in-Show.written c.in-Show.how c.in-Show.is) in
    on_ok_weaker c.put_written.result (λ more. sym stays) c.put_written.ensures.ok

pub put_node-returns-in-Set-clause-ok : goal.put_node-returns-in-Set-clause-ok
put_node-returns-in-Set-clause-ok t c =
    let state = state_with c.args.scope.now c.args.names.now in
    let part = set_part c.args.node.now c.in-Set.name c.in-Set.written c.in-Set.is in
    on_ok_weaker c.put_set.result (λ none. (
      [],
      subst (λ q. IsPageOf q []) (sym (ap (λ p. pieces p state) part ∙ none)) refl,
      sym (append-nil (grown_bytes c.args.page.now)),
    )) c.put_set.ensures.ok

pub put_node-returns-in-Set-clause-after : goal.put_node-returns-in-Set-clause-after
put_node-returns-in-Set-clause-after t c =
    let scope = c.args.scope.now in
    subst (λ p. OnOk c.put_set.result (state_with scope c.put_set.new.names ≡ after p (state_with scope c.args.names.now)))
    (sym (set_part c.args.node.now c.in-Set.name c.in-Set.written c.in-Set.is)) c.put_set.ensures.after

pub put_node-returns-in-Set-clause-err : goal.put_node-returns-in-Set-clause-err
put_node-returns-in-Set-clause-err t c =
    subst (λ p. IfErr c.put_set.result (Fails (pieces p (state_with c.args.scope.now c.args.names.now))))
    (sym (set_part c.args.node.now c.in-Set.name c.in-Set.written c.in-Set.is)) c.put_set.ensures.err

pub put_node-returns-then-holds-clause-ok : goal.put_node-returns-then-holds-clause-ok
put_node-returns-then-holds-clause-ok t c =
    let (v, gives, same) = c.in_ok-holds-in-If.ensures.ok in
    let given = subst (λ s. value_of (expression_of c.in-If.test.expression) s ≡ Ok v) c.inside-inner-in-If.ensures gives in
    let taken = shows_taken c.args.node.now c.in-If.test c.in-If.then c.in-If.otherwise (state_with c.args.scope.now c.args.names.now) v c.in-If.is
    given true c.as_slice.result.now (sym same ∙ c.if-holds.true) c.as_slice.ensures.value in
    subst (λ p. OnOk c.put_nodes.result (Grows p (grown_bytes c.args.page.now) (grown_bytes c.put_nodes.new.page))) (sym taken.0) c.put_nodes.ensures.ok

pub put_node-returns-then-holds-clause-after : goal.put_node-returns-then-holds-clause-after
put_node-returns-then-holds-clause-after t c =
    let (v, gives, same) = c.in_ok-holds-in-If.ensures.ok in
    let given = subst (λ s. value_of (expression_of c.in-If.test.expression) s ≡ Ok v) c.inside-inner-in-If.ensures gives in
    let taken = shows_taken c.args.node.now c.in-If.test c.in-If.then c.in-If.otherwise (state_with c.args.scope.now c.args.names.now) v c.in-If.is
    given true c.as_slice.result.now (sym same ∙ c.if-holds.true) c.as_slice.ensures.value in
    subst (λ s. OnOk c.put_nodes.result (state_with c.args.scope.now c.put_nodes.new.names ≡ s)) (sym taken.1) c.put_nodes.ensures.after

pub put_node-returns-then-holds-clause-err : goal.put_node-returns-then-holds-clause-err
put_node-returns-then-holds-clause-err t c =
    let (v, gives, same) = c.in_ok-holds-in-If.ensures.ok in
    let given = subst (λ s. value_of (expression_of c.in-If.test.expression) s ≡ Ok v) c.inside-inner-in-If.ensures gives in
    let taken = shows_taken c.args.node.now c.in-If.test c.in-If.then c.in-If.otherwise (state_with c.args.scope.now c.args.names.now) v c.in-If.is
    given true c.as_slice.result.now (sym same ∙ c.if-holds.true) c.as_slice.ensures.value in
    subst (λ p. IfErr c.put_nodes.result (Fails p)) (sym taken.0) c.put_nodes.ensures.err

pub put_node-returns-else-holds-clause-ok : goal.put_node-returns-else-holds-clause-ok
put_node-returns-else-holds-clause-ok t c =
    let (v, gives, same) = c.in_ok-holds-in-If.ensures.ok in
    let given = subst (λ s. value_of (expression_of c.in-If.test.expression) s ≡ Ok v) c.inside-inner-in-If.ensures gives in
    let taken = shows_taken c.args.node.now c.in-If.test c.in-If.then c.in-If.otherwise (state_with c.args.scope.now c.args.names.now) v c.in-If.is
    given false c.as_slice-else-holds.result.now (sym same ∙ c.if-holds.false) c.as_slice-else-holds.ensures.value in
    subst (λ p. OnOk c.put_nodes-else-holds.result (Grows p (grown_bytes c.args.page.now) (grown_bytes c.put_nodes-else-holds.new.page)))
    (sym taken.0) c.put_nodes-else-holds.ensures.ok

pub put_node-returns-else-holds-clause-after : goal.put_node-returns-else-holds-clause-after
put_node-returns-else-holds-clause-after t c =
    let (v, gives, same) = c.in_ok-holds-in-If.ensures.ok in
    let given = subst (λ s. value_of (expression_of c.in-If.test.expression) s ≡ Ok v) c.inside-inner-in-If.ensures gives in
    let taken = shows_taken c.args.node.now c.in-If.test c.in-If.then c.in-If.otherwise (state_with c.args.scope.now c.args.names.now) v c.in-If.is
    given false c.as_slice-else-holds.result.now (sym same ∙ c.if-holds.false) c.as_slice-else-holds.ensures.value in
    subst (λ s. OnOk c.put_nodes-else-holds.result (state_with c.args.scope.now c.put_nodes-else-holds.new.names ≡ s)) (sym taken.1)
    c.put_nodes-else-holds.ensures.after

pub put_node-returns-else-holds-clause-err : goal.put_node-returns-else-holds-clause-err
put_node-returns-else-holds-clause-err t c =
    let (v, gives, same) = c.in_ok-holds-in-If.ensures.ok in
    let given = subst (λ s. value_of (expression_of c.in-If.test.expression) s ≡ Ok v) c.inside-inner-in-If.ensures gives in
    let taken = shows_taken c.args.node.now c.in-If.test c.in-If.then c.in-If.otherwise (state_with c.args.scope.now c.args.names.now) v c.in-If.is
    given false c.as_slice-else-holds.result.now (sym same ∙ c.if-holds.false) c.as_slice-else-holds.ensures.value in
    subst (λ p. IfErr c.put_nodes-else-holds.result (Fails p)) (sym taken.0) c.put_nodes-else-holds.ensures.err

pub put_node-returns-in_err-holds-in-If-clause-err : goal.put_node-returns-in_err-holds-in-If-clause-err
put_node-returns-in_err-holds-in-If-clause-err t c =
    let f = c.in-If in
    let failed = c.in_err-holds-in-If.field-0.0 in
    let w = written_of f.test in
    let state = state_with c.args.scope.now c.args.names.now in
    let fails : Fails (pieces (part_of c.args.node.now) state) failed =
    subst (λ p. Fails (pieces p state) failed) (sym (choice_part c.args.node.now f.test f.then f.otherwise f.is))
    (choice_fails w (parts_of f.then.items) (parts_of f.otherwise.items) state failed
    (subst (λ s. Fails (placed w (value_of w.expression s)) failed) c.inside-inner-in-If.ensures c.in_err-holds-in-If.ensures.err)) in
    search rules

pub put_node-returns-in_err-put_turns-in-For-clause-err : goal.put_node-returns-in_err-put_turns-in-For-clause-err
put_node-returns-in_err-put_turns-in-For-clause-err t c =
    let f = c.in-For in
    let failed = c.in_err-put_turns-in-For.field-0.0 in
    let part = loop_part c.args.node.now f.bound f.over f.body f.otherwise c.as_slice-in-For.result.now f.otherwise.items f.is
    c.as_slice-in-For.ensures.value refl in
    let fails : Fails (pieces (part_of c.args.node.now) (state_with c.args.scope.now c.args.names.now)) failed =
    subst (λ s. Fails (pieces (part_of c.args.node.now) s) failed) c.inside-inner-in-For.ensures
    (subst (λ p. Fails (pieces p (state_of c.inside-inner-in-For.result)) failed) (sym part)
    (c.in_err-put_turns-in-For.ensures.err (parts_of f.otherwise.items))) in
    search rules

pub put_node-returns-then-branch-clause-ok : goal.put_node-returns-then-branch-clause-ok
put_node-returns-then-branch-clause-ok t c =
    let f = c.in-For in
    let state = state_of c.inside-inner-in-For.result in
    let body = parts_of c.as_slice-in-For.result.now in
    let part = loop_part c.args.node.now f.bound f.over f.body f.otherwise c.as_slice-in-For.result.now f.otherwise.items f.is
    c.as_slice-in-For.ensures.value refl in
    let (all, names, grows, turned) = c.in_ok-put_turns-in-For.ensures.ok in
    let shows = shows_each (bound_of f.bound) (written_of f.over) body (parts_of f.otherwise.items) state all names (sym c.if-branch.true ∙ turned) in
    subst (λ s. Grows (pieces (part_of c.args.node.now) s) (grown_bytes c.args.page.now) (grown_bytes c.put_turns.new.page))
    c.inside-inner-in-For.ensures
    (subst (λ p. Grows p (grown_bytes c.args.page.now) (grown_bytes c.put_turns.new.page)) (sym (ap (λ p. pieces p state) part ∙ shows)) grows)

pub put_node-returns-then-branch-clause-after : goal.put_node-returns-then-branch-clause-after
put_node-returns-then-branch-clause-after t c =
    let f = c.in-For in
    let part = loop_part c.args.node.now f.bound f.over f.body f.otherwise f.body.items f.otherwise.items f.is refl refl in
    sym (ap (λ p. after p (state_with c.args.scope.now c.args.names.now)) part)

pub put_node-returns-else-branch-clause-after : goal.put_node-returns-else-branch-clause-after
put_node-returns-else-branch-clause-after t c =
    let f = c.in-For in
    let part = loop_part c.args.node.now f.bound f.over f.body f.otherwise f.body.items f.otherwise.items f.is refl refl in
    on_ok_weaker c.put_body.result (λ more. sym (ap (λ p. after p (state_with c.args.scope.now c.args.names.now)) part)) c.put_body.ensures.ok

pub put_node-returns-else-branch-clause-ok : goal.put_node-returns-else-branch-clause-ok
put_node-returns-else-branch-clause-ok t c =
    let f = c.in-For in
    let state = state_of c.inside-inner-in-For.result in
    let body = parts_of c.as_slice-in-For.result.now in
    let others = c.as_slice-else-branch.result.now in
    let part = loop_part c.args.node.now f.bound f.over f.body f.otherwise c.as_slice-in-For.result.now others f.is c.as_slice-in-For.ensures.value
    c.as_slice-else-branch.ensures.value in
    let (all, names, grows, turned) = c.in_ok-put_turns-in-For.ensures.ok in
    let (same, still) = shows_otherwise (bound_of f.bound) (written_of f.over) body (parts_of others) state all names (grown_bytes c.args.page.now)
    (grown_bytes c.put_turns.new.page) (sym c.if-branch.false ∙ turned) grows in
    let put = c.put_body.result in
    let new = grown_bytes c.put_body.new.page in
    subst (λ s. OnOk put (Grows (pieces (part_of c.args.node.now) s) (grown_bytes c.args.page.now) new)) c.inside-inner-in-For.ensures
    (subst (λ old. OnOk put (Grows (pieces (part_of c.args.node.now) state) old new)) still
    (subst (λ p. OnOk put (Grows p (grown_bytes c.put_turns.new.page) new)) (sym (ap (λ p. pieces p state) part ∙ same)) c.put_body.ensures.ok))

pub put_node-returns-else-branch-clause-err : goal.put_node-returns-else-branch-clause-err
put_node-returns-else-branch-clause-err t c =
    let f = c.in-For in
    let state = state_of c.inside-inner-in-For.result in
    let body = parts_of c.as_slice-in-For.result.now in
    let others = c.as_slice-else-branch.result.now in
    let part = loop_part c.args.node.now f.bound f.over f.body f.otherwise c.as_slice-in-For.result.now others f.is c.as_slice-in-For.ensures.value
    c.as_slice-else-branch.ensures.value in
    let (all, names, grows, turned) = c.in_ok-put_turns-in-For.ensures.ok in
    let (same, still) = shows_otherwise (bound_of f.bound) (written_of f.over) body (parts_of others) state all names (grown_bytes c.args.page.now)
    (grown_bytes c.put_turns.new.page) (sym c.if-branch.false ∙ turned) grows in
    subst (λ s. IfErr c.put_body.result (Fails (pieces (part_of c.args.node.now) s))) c.inside-inner-in-For.ensures
    (subst (λ p. IfErr c.put_body.result (Fails p)) (sym (ap (λ p. pieces p state) part ∙ same)) c.put_body.ensures.err)

pub put_turns-returns-in_err-held-clause-err : goal.put_turns-returns-in_err-held-clause-err
put_turns-returns-in_err-held-clause-err t c =
    let failed = c.in_err-held.field-0.0 in
    let over = written_of c.args.over.now in
    let body = parts_of c.args.body.now in
    let state = state_of c.args.scope.now in
    let bound = bound_of c.args.bound in
    let fails : (otherwise : Parts) → Fails (pieces (loop bound over body otherwise) state) failed =
    λ otherwise. loop_fails bound over body otherwise state failed (value_fails_loop bound over body otherwise state failed c.in_err-held.ensures.err) in
    search rules

pub put_turns-returns-in_err-items-in-Item-clause-err : goal.put_turns-returns-in_err-items-in-Item-clause-err
put_turns-returns-in_err-items-in-Item-clause-err t c =
    let failed = c.in_err-items-in-Item.field-0.0 in
    let over = written_of c.args.over.now in
    let body = parts_of c.args.body.now in
    let state = state_of c.args.scope.now in
    let f = c.in-Item in
    let fails : (otherwise : Parts) → Fails (pieces (loop (bound_of c.args.bound) over body otherwise) state) failed = λ otherwise.
    subst (λ b. Fails (pieces (loop (bound_of b) over body otherwise) state) failed) (sym f.is)
    (loop_fails (item f.name.now) over body otherwise state failed
    (items_fail over state (form_of c.in_ok-held.held) c.in_ok-held.ensures.ok f.name.now failed
    (subst (λ w. Fails (placed over (items_of over.text w)) failed) c.value.ensures c.in_err-items-in-Item.ensures.err))) in
    search rules

pub put_turns-returns-in_err-put_each-in-Item-clause-err : goal.put_turns-returns-in_err-put_each-in-Item-clause-err
put_turns-returns-in_err-put_each-in-Item-clause-err t c =
    let failed = c.in_err-put_each-in-Item.field-0.0 in
    let over = written_of c.args.over.now in
    let body = parts_of c.args.body.now in
    let state = state_of c.args.scope.now in
    let f = c.in-Item in
    let xs = c.in_ok-items-in-Item.items.now in
    let got = subst (λ w. items_of over.text w ≡ Ok xs) c.value.ensures c.in_ok-items-in-Item.ensures.ok in
    let names = subst (λ b. loop_names b over state ≡ Ok (named_items f.name.now xs)) (sym (ap bound_of f.is))
    (item_names over state (form_of c.in_ok-held.held) c.in_ok-held.ensures.ok f.name.now xs got) in
    let fails : (otherwise : Parts) → Fails (pieces (loop (bound_of c.args.bound) over body otherwise) state) failed = λ otherwise.
    turns_fail (bound_of c.args.bound) over body otherwise state _ names failed c.in_err-put_each-in-Item.ensures.err in
    search rules

pub put_turns-returns-in_err-pairs-in-Pair-clause-err : goal.put_turns-returns-in_err-pairs-in-Pair-clause-err
put_turns-returns-in_err-pairs-in-Pair-clause-err t c =
    let failed = c.in_err-pairs-in-Pair.field-0.0 in
    let over = written_of c.args.over.now in
    let body = parts_of c.args.body.now in
    let state = state_of c.args.scope.now in
    let f = c.in-Pair in
    let fails : (otherwise : Parts) → Fails (pieces (loop (bound_of c.args.bound) over body otherwise) state) failed = λ otherwise.
    subst (λ b. Fails (pieces (loop (bound_of b) over body otherwise) state) failed) (sym f.is)
    (loop_fails (pair f.key_name.now f.name.now) over body otherwise state failed
    (pairs_fail over state (form_of c.in_ok-held.held) c.in_ok-held.ensures.ok f.key_name.now f.name.now failed
    (subst (λ w. Fails (placed over (pairs_of over.text w)) failed) c.value-in-Pair.ensures c.in_err-pairs-in-Pair.ensures.err))) in
    search rules

pub put_turns-returns-in_err-put_pairs-in-Pair-clause-err : goal.put_turns-returns-in_err-put_pairs-in-Pair-clause-err
put_turns-returns-in_err-put_pairs-in-Pair-clause-err t c =
    let failed = c.in_err-put_pairs-in-Pair.field-0.0 in
    let over = written_of c.args.over.now in
    let body = parts_of c.args.body.now in
    let state = state_of c.args.scope.now in
    let f = c.in-Pair in
    let xs = c.in_ok-pairs-in-Pair.pairs.now in
    let got = subst (λ w. pairs_of over.text w ≡ Ok xs) c.value-in-Pair.ensures c.in_ok-pairs-in-Pair.ensures.ok in
    let names = subst (λ b. loop_names b over state ≡ Ok (named_pairs f.key_name.now f.name.now xs)) (sym (ap bound_of f.is))
    (pair_names over state (form_of c.in_ok-held.held) c.in_ok-held.ensures.ok f.key_name.now f.name.now xs got) in
    let fails : (otherwise : Parts) → Fails (pieces (loop (bound_of c.args.bound) over body otherwise) state) failed = λ otherwise.
    turns_fail (bound_of c.args.bound) over body otherwise state _ names failed c.in_err-put_pairs-in-Pair.ensures.err in
    search rules
