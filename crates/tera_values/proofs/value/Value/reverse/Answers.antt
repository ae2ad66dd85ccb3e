use Rattle.std.proofs.Common.{List, ℕ, sym, ap, ◌∙◌}
use Rattle.tera_meaning.specs.Form.{Form}
use Rattle.tera_meaning.specs.Tree.{array, items}
use Rattle.tera_values.specs.View.{form_of, marked}
use Rattle.tera_values.proofs.SliceLemmas.{none_turned, none_turned_of_text}
use Rattle.tera_values.proofs.value.Value.reverse.Goals as goal

pub returns-in_err-reversed_items-in-Array-clause-empty : goal.returns-in_err-reversed_items-in-Array-clause-empty
returns-in_err-reversed_items-in-Array-clause-empty c made turns empty =
    let held = ap (λ (xs : List Form). array (items xs)) c.as_slice.ensures.value ∙ sym (ap form_of c.in-Array.is) ∙ c.self.view_is in
    let given = c.in_err-reversed_items-in-Array.ensures.succeeds (none_turned c.args.self.now made _ held turns empty) in
    cc

pub returns-in_err-reversed_text-in-String-clause-empty : goal.returns-in_err-reversed_text-in-String-clause-empty
returns-in_err-reversed_text-in-String-clause-empty c made turns empty =
    let held = ap (λ (bs : List ℕ). marked bs c.in-String.field-0) c.as_str.ensures.value ∙ sym (ap form_of c.in-String.is) ∙ c.self.view_is in
    let given = c.in_err-reversed_text-in-String.ensures.succeeds
    (none_turned_of_text c.args.self.now made _ c.in-String.field-0 c.as_str.utf8 held turns empty) in
    cc
