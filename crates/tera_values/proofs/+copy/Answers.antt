use Rattle.std.proofs.Common.{◌≡◌, arith, rules, ap, ◌∙◌, sym, subst, List, IfOk}
use Rattle.tera_meaning.specs.Form.{Form}
use Rattle.tera_meaning.specs.KeyMeaning.{KeyForm}
use Rattle.tera_meaning.specs.Tree.{array, items, items_depth, members, members_depth}
use Rattle.tera_values.specs.inner.Map.{keys_held, pairs_held}
use Rattle.tera_values.proofs.ColumnLemmas.{column_depth}
use Rattle.tera_values.specs.View.{form_of}
use Rattle.tera_values.proofs.CopyLemmas.{no_items_held, no_pairs_held, same_pairs}
use Rattle.tera_values.proofs.PartsLaws.{depth_at}
use Rattle.tera_values.proofs.+copy.Goals as goal

pub copy::copies-push_copy-requires : goal.copy::copies-push_copy-requires
copy::copies-push_copy-requires t c =
    let item = c.value-item in
    let less_deep = depth_at c.args.all.now c.loop-value.value-index item.result c.loop-value-test.true item.is in (
      omega (arith, less_deep),
      omega (arith, c.loop-value.invariant.so_many, c.loop-value.invariant.room, c.loop-value-test.true),
    )

pub map::columns::Columns::copy-copies-requires : goal.map::columns::Columns::copy-copies-requires
map::columns::Columns::copy-copies-requires t c =
    let deep = column_depth (keys_held c.self.inside.keys) c.self.inside.values.items c.self.invariant.even in
    let same = ap (λ ps. members_depth (members ps)) c.self.view_is in
    let slice = ap (λ vs. items_depth (items vs)) c.as_slice.ensures.value in
    (omega (arith, deep, same, slice), tt)

pub map::columns::Columns::copy-returns : goal.map::columns::Columns::copy-returns
map::columns::Columns::copy-returns t c =
    let made = keys_held c.in_ok-keys.keys in
    let values = c.in_ok-values.ensures.ok ∙ c.as_slice.ensures.value in
    let pairs : pairs_held made c.in_ok-values.values.items ≡ c.args.self.now = ap (pairs_held made) values
    ∙ same_pairs (keys_held c.self.inside.keys) made c.self.inside.values.items c.in_ok-keys.ensures.forms
    ∙ c.self.view_is in
    subst (λ (all : List (KeyForm × Form)). IfOk c.boxed.result (λ b. b.value ≡ all)) pairs c.boxed.ensures

pub value::Value::owner_copy-returns-in-Array-clause-empty : goal.value::Value::owner_copy-returns-in-Array-clause-empty
value::Value::owner_copy-returns-in-Array-clause-empty t c false_now =
    let held = ap (λ (xs : List Form). array (items xs)) c.as_slice.ensures.value ∙ sym (ap form_of c.in-Array.is) ∙ c.self.view_is in
    let made = c.copies.ensures.succeeds (no_items_held c.args.self.now c.as_slice.result.now held false_now) in
    search rules

pub value::Value::owner_copy-returns-in-Map-clause-empty : goal.value::Value::owner_copy-returns-in-Map-clause-empty
value::Value::owner_copy-returns-in-Map-clause-empty t c false_now =
    let held = sym (ap form_of c.in-Map.is) ∙ c.self.view_is in
    let made = c.copy.ensures.succeeds (no_pairs_held c.args.self.now c.in-Map.all held false_now) in
    search rules
