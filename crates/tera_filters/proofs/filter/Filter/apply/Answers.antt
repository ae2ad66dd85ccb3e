-- An answer that is made with memory has parts; an empty one is a text, or an array of no items.
use Rattle.std.proofs.Common.{true, refl}
use Rattle.tera.specs.Read.{iterable_in}
use Rattle.tera_filters.proofs.Answered.{has_parts, is_a_text, is_text, reversed_has_parts, slice_has_parts, sort_has_parts, sort_of_none}
use Rattle.tera_filters.proofs.Answered.{unique_has_parts, unique_of_none}
use Rattle.tera_filters.proofs.Gives.{join_is, lower_is, replace_is, trim_is, truncate_is, upper_is}
use Rattle.tera_filters.proofs.filter.Filter.apply.Goals as goal

pub returns-in-Reverse-clause-succeeds : goal.returns-in-Reverse-clause-succeeds
returns-in-Reverse-clause-succeeds c made is plain =
    has_parts made (reversed_has_parts c.args.value.now made (rw c.in-Reverse.is at is)) plain

pub returns-in-Slice-clause-succeeds : goal.returns-in-Slice-clause-succeeds
returns-in-Slice-clause-succeeds c made is plain =
    has_parts made (slice_has_parts c.args.value.now c.args.arguments.now made (rw c.in-Slice.is at is)) plain

pub returns-in-Upper-clause-succeeds : goal.returns-in-Upper-clause-succeeds
returns-in-Upper-clause-succeeds c made is plain =
    has_parts made (upper_is iterable_in true (λ t. refl) c.args.value.now c.args.arguments.now made (rw c.in-Upper.is at is)) plain

pub returns-in-Lower-clause-succeeds : goal.returns-in-Lower-clause-succeeds
returns-in-Lower-clause-succeeds c made is plain =
    has_parts made (lower_is iterable_in true (λ t. refl) c.args.value.now c.args.arguments.now made (rw c.in-Lower.is at is)) plain

pub returns-in-Trim-clause-succeeds : goal.returns-in-Trim-clause-succeeds
returns-in-Trim-clause-succeeds c made is plain =
    has_parts made (trim_is iterable_in true (λ t. refl) c.args.value.now c.args.arguments.now made (rw c.in-Trim.is at is)) plain

pub returns-in-Join-clause-succeeds : goal.returns-in-Join-clause-succeeds
returns-in-Join-clause-succeeds c made is plain =
    has_parts made (join_is iterable_in true (λ t. refl) c.args.value.now c.args.arguments.now made (rw c.in-Join.is at is)) plain

pub returns-in-Sort-clause-succeeds : goal.returns-in-Sort-clause-succeeds
returns-in-Sort-clause-succeeds c made is plain =
    has_parts made (sort_has_parts c.args.value.now made (rw c.in-Sort.is at is)) plain

pub returns-in-Unique-clause-succeeds : goal.returns-in-Unique-clause-succeeds
returns-in-Unique-clause-succeeds c made is plain =
    has_parts made (unique_has_parts c.args.value.now made (rw c.in-Unique.is at is)) plain

pub returns-in-Replace-clause-succeeds : goal.returns-in-Replace-clause-succeeds
returns-in-Replace-clause-succeeds c made is plain =
    has_parts made (replace_is iterable_in true (λ t. refl) c.args.value.now c.args.arguments.now made (rw c.in-Replace.is at is)) plain

pub returns-in-Truncate-clause-succeeds : goal.returns-in-Truncate-clause-succeeds
returns-in-Truncate-clause-succeeds c made is plain =
    has_parts made (truncate_is iterable_in true (λ t. refl) c.args.value.now c.args.arguments.now made (rw c.in-Truncate.is at is)) plain

pub returns-in-Upper-clause-empty : goal.returns-in-Upper-clause-empty
returns-in-Upper-clause-empty c made is empty other =
    is_a_text made (upper_is is_text true (λ t. refl) c.args.value.now c.args.arguments.now made (rw c.in-Upper.is at is)) other

pub returns-in-Lower-clause-empty : goal.returns-in-Lower-clause-empty
returns-in-Lower-clause-empty c made is empty other =
    is_a_text made (lower_is is_text true (λ t. refl) c.args.value.now c.args.arguments.now made (rw c.in-Lower.is at is)) other

pub returns-in-Trim-clause-empty : goal.returns-in-Trim-clause-empty
returns-in-Trim-clause-empty c made is empty other =
    is_a_text made (trim_is is_text true (λ t. refl) c.args.value.now c.args.arguments.now made (rw c.in-Trim.is at is)) other

pub returns-in-Join-clause-empty : goal.returns-in-Join-clause-empty
returns-in-Join-clause-empty c made is empty other =
    is_a_text made (join_is is_text true (λ t. refl) c.args.value.now c.args.arguments.now made (rw c.in-Join.is at is)) other

pub returns-in-Sort-clause-empty : goal.returns-in-Sort-clause-empty
returns-in-Sort-clause-empty c made is empty other =
    c.sort.ensures.empty (sort_of_none c.args.value.now made (rw c.in-Sort.is at is) empty)

pub returns-in-Unique-clause-empty : goal.returns-in-Unique-clause-empty
returns-in-Unique-clause-empty c made is empty other =
    c.unique.ensures.empty (unique_of_none c.args.value.now made (rw c.in-Unique.is at is) empty)

pub returns-in-Replace-clause-empty : goal.returns-in-Replace-clause-empty
returns-in-Replace-clause-empty c made is empty other =
    is_a_text made (replace_is is_text true (λ t. refl) c.args.value.now c.args.arguments.now made (rw c.in-Replace.is at is)) other

pub returns-in-Truncate-clause-empty : goal.returns-in-Truncate-clause-empty
returns-in-Truncate-clause-empty c made is empty other =
    is_a_text made (truncate_is is_text true (λ t. refl) c.args.value.now c.args.arguments.now made (rw c.in-Truncate.is at is)) other
