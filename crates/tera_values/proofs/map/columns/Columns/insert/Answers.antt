use Rattle.std.proofs.Common.{◌≡◌, Some, None, ◌++◌, ◌∷◌, [], ap, sym, ◌∙◌, get_or, length, set, arith, rules, position}
use Rattle.tera_meaning.specs.Pairs.{key_form_order, put, value_at}
use Rattle.tera_values.specs.Key.{key_form}
use Rattle.tera_values.specs.inner.Map.{keys_held, keys_tie, pairs_held}
use Rattle.tera_values.proofs.ColumnLemmas.{found, lost, put_found, put_new, put_some, held_key, new_key, placed, placed_at, was_held, was_new}
use Rattle.tera_values.proofs.map.columns.Columns.insert.Goals as goal

pub returns-in_err-place-clause-absent : goal.returns-in_err-place-clause-absent
returns-in_err-place-clause-absent c =
    let absent : value_at key_form_order c.args.self.now (key_form c.args.key) ≡ None =
    sym (lost c.args.key (keys_held c.self.inside.keys) c.self.inside.values.items c.in_err-place.ensures.absent
    ∙ ap (λ ps. value_at key_form_order ps (key_form c.args.key)) c.self.view_is) in
    search rules

pub returns-in-Err-clause-absent : goal.returns-in-Err-clause-absent
returns-in-Err-clause-absent c =
    let absent : value_at key_form_order c.args.self.now (key_form c.args.key) ≡ None =
    sym (lost c.args.key (keys_held c.self.inside.keys) c.self.inside.values.items c.in-Err.ensures.absent
    ∙ ap (λ ps. value_at key_form_order ps (key_form c.args.key)) c.self.view_is) in
    search rules

pub returns-then-is_new-clause-ok : goal.returns-then-is_new-clause-ok
returns-then-is_new-clause-ok c =
    let ks = keys_held c.self.inside.keys in
    let vs = c.self.inside.values.items in
    let none = was_new c.in_ok-place.is_new _ c.in_ok-place.ensures.new c.if-is_new.true in
    let keys = c.in_ok-place.ensures.keys ∙ new_key ks c.args.key none in
    let values = c.push_reserved.ensures.items ∙ ap (λ l. l ++ c.args.value ∷ []) c.make_room.ensures.items in
    (λ j. pairs_held (keys j) (values j))
    ∙ put_new c.args.key ks vs c.args.value c.self.invariant.even none
    ∙ ap (λ ps. put key_form_order ps (key_form c.args.key) c.args.value) c.self.view_is

pub returns-then-is_new-clause-given : goal.returns-then-is_new-clause-given
returns-then-is_new-clause-given c =
    let none = was_new c.in_ok-place.is_new _ c.in_ok-place.ensures.new c.if-is_new.true in
    lost c.args.key (keys_held c.self.inside.keys) c.self.inside.values.items none
    ∙ ap (λ ps. value_at key_form_order ps (key_form c.args.key)) c.self.view_is

pub index_mut-requires : goal.index_mut-requires
index_mut-requires c =
    let some = was_held c.in_ok-place.is_new _ c.in_ok-place.ensures.new c.if-is_new.false in
    let within = placed c.args.key (keys_held c.self.inside.keys) some in
    let place = c.in_ok-place.ensures.place in
    let even = c.self.invariant.even in
    let same = ap length c.make_room.ensures.items in
    omega (arith, within, place, even, same)

pub returns-clause-ok : goal.returns-clause-ok
returns-clause-ok c =
    let ks = keys_held c.self.inside.keys in
    let vs = c.self.inside.values.items in
    let i = c.in_ok-place.place in
    let some = was_held c.in_ok-place.is_new _ c.in_ok-place.ensures.new c.if-is_new.false in
    let keys = c.in_ok-place.ensures.keys ∙ held_key ks c.args.key some in
    let at : Some i ≡ position (keys_tie c.args.key) ks = ap Some c.in_ok-place.ensures.place ∙ placed_at c.args.key ks some in
    (λ j. pairs_held (keys j) (set (c.make_room.ensures.items j) i (c.replace.ensures.after j)))
    ∙ put_found c.args.key ks vs i c.args.value c.self.invariant at
    ∙ ap (λ ps. put key_form_order ps (key_form c.args.key) c.args.value) c.self.view_is

pub returns-clause-given : goal.returns-clause-given
returns-clause-given c =
    let ks = keys_held c.self.inside.keys in
    let i = c.in_ok-place.place in
    let some = was_held c.in_ok-place.is_new _ c.in_ok-place.ensures.new c.if-is_new.false in
    let at : Some i ≡ position (keys_tie c.args.key) ks = ap Some c.in_ok-place.ensures.place ∙ placed_at c.args.key ks some in
    ap Some c.replace.ensures.value
    ∙ found c.args.key ks c.self.inside.values.items i c.index_mut.result.now c.self.invariant at
    (c.index_mut.ensures.value ∙ ap (λ l. get_or l i c.index_mut.result.now) c.make_room.ensures.items)
    ∙ ap (λ ps. value_at key_form_order ps (key_form c.args.key)) c.self.view_is

pub returns-then-is_new-clause-some : goal.returns-then-is_new-clause-some
returns-then-is_new-clause-some c = λ e.
    absurd (put_some c.args.self.now (key_form c.args.key) c.args.value (sym (returns-then-is_new-clause-ok c) ∙ e))

pub returns-clause-some : goal.returns-clause-some
returns-clause-some c = λ e.
    absurd (put_some c.args.self.now (key_form c.args.key) c.args.value (sym (returns-clause-ok c) ∙ e))
