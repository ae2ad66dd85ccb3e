use Rattle.std.proofs.Common.{List, ℕ, sym, ap, ◌∙◌}
use Rattle.std.proofs.lemmas.Int.{to_z-of_z}
use Rattle.std.specs.Int.{w128}
use Rattle.tera_meaning.specs.Form.{Form}
use Rattle.tera_meaning.specs.Slice.{cut}
use Rattle.tera_meaning.specs.Tree.{array, items}
use Rattle.tera_values.specs.View.{form_of, marked}
use Rattle.tera_values.proofs.SliceLemmas.{array_cut, none_cut, none_cut_of_text, not_zero, text_cut, where_ok}
use Rattle.tera_values.proofs.value.Value.cut.Goals as goal

pub returns-in_ok-part-in-Array-clause-ok : goal.returns-in_ok-part-in-Array-clause-ok
returns-in_ok-part-in-Array-clause-ok c =
    array_cut c.args.start c.args.end _ c.args.step (to_z-of_z w128 c.args.step c.ranges.step) c.args.self.now c.of_array.result _ _
    (ap (λ (xs : List Form). array (items xs)) c.as_slice.ensures.value ∙ sym (ap form_of c.in-Array.is) ∙ c.self.view_is)
    c.in_ok-part-in-Array.ensures.ok c.of_array.ensures

pub returns-in_ok-part-in-String-clause-ok : goal.returns-in_ok-part-in-String-clause-ok
returns-in_ok-part-in-String-clause-ok c =
    text_cut c.args.start c.args.end _ c.args.step (to_z-of_z w128 c.args.step c.ranges.step) c.args.self.now _ _ c.in-String.safe
    (ap (λ (bs : List ℕ). marked bs c.in-String.safe) c.as_str.ensures.value ∙ sym (ap form_of c.in-String.is) ∙ c.self.view_is)
    c.in_ok-part-in-String.ensures.ok

pub returns-in_err-part-in-Array-clause-empty : goal.returns-in_err-part-in-Array-clause-empty
returns-in_err-part-in-Array-clause-empty c = where_ok (cut c.args.self.now c.args.start c.args.end c.args.step) _ (λ made cuts empty nonzero.
    let same = to_z-of_z w128 c.args.step c.ranges.step in
    let held = ap (λ (xs : List Form). array (items xs)) c.as_slice.ensures.value ∙ sym (ap form_of c.in-Array.is) ∙ c.self.view_is in
    let given = c.in_err-part-in-Array.ensures.succeeds (not_zero c.args.start c.args.end _ c.args.step same nonzero)
    (none_cut c.args.start c.args.end _ c.args.step same c.args.self.now made c.as_slice.result.now held cuts empty) in
    cc)

pub returns-in_err-part-in-String-clause-empty : goal.returns-in_err-part-in-String-clause-empty
returns-in_err-part-in-String-clause-empty c = where_ok (cut c.args.self.now c.args.start c.args.end c.args.step) _ (λ made cuts empty nonzero.
    let same = to_z-of_z w128 c.args.step c.ranges.step in
    let held = ap (λ (bs : List ℕ). marked bs c.in-String.safe) c.as_str.ensures.value ∙ sym (ap form_of c.in-String.is) ∙ c.self.view_is in
    let given = c.in_err-part-in-String.ensures.succeeds (not_zero c.args.start c.args.end _ c.args.step same nonzero)
    (none_cut_of_text c.args.start c.args.end _ c.args.step same c.args.self.now made _ c.in-String.safe held cuts empty nonzero) in
    cc)
