use Rattle.std.specs.Prelude.{None, Some, negsuc}
use Rattle.std.proofs.Common.{ap, ◌∙◌, sym}
use Rattle.tera_meaning.specs.SliceRule.{shape_of}
use Rattle.tera_meaning.specs.Tree.{text}
use Rattle.tera_meaning.proofs.SliceLaws.{backward_array, backward_text, sliced_only}
use Rattle.tera_meaning.proofs.slices.slices_backwards_are_the_reversed_value.Goals as goal

pub returns-clause-array : goal.returns-clause-array
returns-clause-array c = backward_array

pub returns-clause-text : goal.returns-clause-text
returns-clause-text c = backward_text

pub returns-clause-same : goal.returns-clause-same
returns-clause-same c t outcome h =
    ap shape_of (sliced_only (text t) None None (Some (negsuc 0)) outcome h)
    ∙ sym (ap shape_of (sliced_only (text t) None None (Some (negsuc 0)) _ (backward_text t)))
