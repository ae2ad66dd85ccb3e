use Rattle.std.proofs.Common.{ap, sym, subst, ◌∙◌, map}
use Rattle.std.specs.List.{IsDistinct}
use Rattle.tera_values.specs.inner.Map.{keys_tie}
use Rattle.tera_values.specs.Key.{key_form}
use Rattle.tera_values.proofs.ColumnLemmas.{new_key, no_keys}
use Rattle.tera_values.proofs.CopyLemmas.{new_copy, one_more_copy}
use Rattle.tera_values.proofs.map.keys.insert_copies.Goals as goal

pub loop-key-preserved : goal.loop-key-preserved
loop-key-preserved c =
    let keys = c.args.keys.now in
    let made = c.loop-key.made.keys in
    let i = c.loop-key.key-index in
    let k = c.key-item.result in
    let copy = c.in_ok-copy.field-0 in
    let so_far = c.loop-key.invariant.forms in
    let none = new_copy keys made i k copy c.loop-key-test.true c.key-item.is c.in_ok-copy.ensures.ok so_far c.requires.distinct in
    let put = c.in_ok-insert_in.ensures.keys ∙ new_key made copy none in
    record {
      forms = ap (map key_form) put
          ∙ one_more_copy keys made i k copy c.loop-key-test.true c.key-item.is c.in_ok-copy.ensures.ok so_far;
      distinct = c.insert_in.ensures.distinct;
    }

pub loop-key-init : goal.loop-key-init
loop-key-init c = record { forms = ap (map key_form) c.requires.empty; distinct = subst (IsDistinct keys_tie) (sym c.requires.empty) no_keys }
