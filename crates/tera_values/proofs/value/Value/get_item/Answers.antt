use Rattle.std.proofs.Common.{◌≡◌, false, IfOk, IsOk, Ok, ap, sym, ◌∙◌, subst}
use Rattle.tera_meaning.specs.Meaning.{meaning}
use Rattle.tera_meaning.specs.Read.{iterable_in, truthy_in}
use Rattle.tera_meaning.specs.Tree.{array, items}
use Rattle.tera_values.specs.View.{form_of}
use Rattle.tera_values.proofs.LookupLemmas.{item_of_list}
use Rattle.tera_values.proofs.value.Value.get_item.Goals as goal
use Rattle.tera_values.proofs.value.Value.get_item.Goals.{In-Array}

pub returns-in-Array-clause-ok : goal.returns-in-Array-clause-ok
returns-in-Array-clause-ok c =
    let is : c.args.self.now ≡ array (items c.as_slice.result.now) = sym c.self.view_is ∙ ap form_of c.in-Array.is ∙ ap (λ xs. array (items xs))
    (sym c.as_slice.ensures.value) in
    let same = item_of_list c.args.self.now c.args.at.now c.as_slice.result.now is in
    subst (λ given. IfOk c.item_of_array.result (λ made. given ≡ Ok made)) (sym same) c.item_of_array.ensures.ok

pub returns-in-Array-clause-succeeds : goal.returns-in-Array-clause-succeeds
returns-in-Array-clause-succeeds c =
    let is : c.args.self.now ≡ array (items c.as_slice.result.now) = sym c.self.view_is ∙ ap form_of c.in-Array.is ∙ ap (λ xs. array (items xs))
    (sym c.as_slice.ensures.value) in
    let same = item_of_list c.args.self.now c.args.at.now c.as_slice.result.now is in
    subst (λ given. IfOk given (λ made. iterable_in made ≡ false → IsOk c.item_of_array.result)) (sym same) c.item_of_array.ensures.succeeds

pub returns-in-Array-clause-empty : goal.returns-in-Array-clause-empty
returns-in-Array-clause-empty c =
    let is : c.args.self.now ≡ array (items c.as_slice.result.now) = sym c.self.view_is ∙ ap form_of c.in-Array.is ∙ ap (λ xs. array (items xs))
    (sym c.as_slice.ensures.value) in
    let same = item_of_list c.args.self.now c.args.at.now c.as_slice.result.now is in
    subst (λ given. IfOk given (λ made. truthy_in (meaning made) ≡ false → IsOk c.item_of_array.result)) (sym same) c.item_of_array.ensures.empty
