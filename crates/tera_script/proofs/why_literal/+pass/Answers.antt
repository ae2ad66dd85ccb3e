use Rattle.std.proofs.Common.{◌∷◌, length, None, Some, ap, sym, ◌∙◌, arith, subst, refl, []}
use Rattle.tera_meaning.specs.Tree.{array, no_items, no_members}
use Rattle.std.proofs.lemmas.Result.{err_from_is_err_and}
use Rattle.tera_script.specs.Readers.{IsLiteralAt}
use Rattle.tera_script.specs.inner.Passed.{Passes}
use Rattle.tera_script.proofs.Arrays.{no_items_yet, no_item, no_item_mark, no_item_end, last_item}
use Rattle.tera_script.proofs.Fronts.{no_prefix, behind_prefix}
use Rattle.tera_script.proofs.Literals.{other_byte}
use Rattle.tera_script.proofs.Passed.{some_items_next, array_passed, map_passed, no_key_if, no_colon_if, no_pairs_if, no_pair_if}
use Rattle.tera_script.proofs.Passed.{no_mark_if, no_end_if, last_if, next_if, value_if}
use Rattle.tera_script.proofs.Series.{literal_length, pair_length, shorter_rest}
use Rattle.tera_script.proofs.why_literal.+pass.Goals as goal

pub pass_array-loop-behind-init : goal.pass_array-loop-behind-init
pass_array-loop-behind-init t c = record {
  values = [];
  has = no_items_yet refl c.past_blanks-rest.ensures
      (no_prefix c.past_blanks-rest.result.now c.strip_prefix.ensures.cases c.as_slice.ensures c.in_default.is);
}

pub pass_array-returns-in_err-pass_literal : goal.pass_array-returns-in_err-pass_literal
pass_array-returns-in_err-pass_literal t c =
    let p = err_from_is_err_and c.from_residual.result c.from_residual.ensures.1 in
    rw (p.1) (no_item c.loop-behind.invariant.has (omega (arith, c.if-levels-eq0.false)) c.in_err-pass_literal.ensures)

pub pass_array-returns-in_default-split_first : goal.pass_array-returns-in_default-split_first
pass_array-returns-in_default-split_first t c =
    no_item_end c.loop-behind.invariant.has (omega (arith, c.if-levels-eq0.false)) c.in_ok-pass_literal.ensures.1
    (sym (ap length c.past_blanks-behind.ensures) ∙ c.in_default-split_first.ensures.cases)

pub pass_array-returns-then-mark-eq93 : goal.pass_array-returns-then-mark-eq93
pass_array-returns-then-mark-eq93 t c = (
  _,
  last_item c.loop-behind.invariant.has (omega (arith, c.if-levels-eq0.false)) c.in_ok-pass_literal.ensures.1 refl refl
      (sym c.past_blanks-behind.ensures ∙ c.in-Some-split_first.ensures.cases.0 ∙ ap (λ b. b ∷ c.in-Some-split_first.next.now) c.if-mark-eq93.true),
)

pub pass_array-returns-then-mark-ne44 : goal.pass_array-returns-then-mark-ne44
pass_array-returns-then-mark-ne44 t c =
    let spelled = sym c.past_blanks-behind.ensures ∙ c.in-Some-split_first.ensures.cases.0 in
    no_item_mark c.loop-behind.invariant.has (omega (arith, c.if-levels-eq0.false)) c.in_ok-pass_literal.ensures.1
    (λ end e. other_byte c.in-Some-split_first.mark.now 93 c.in-Some-split_first.next.now end c.if-mark-eq93.false (sym spelled ∙ e))
    (λ end e. other_byte c.in-Some-split_first.mark.now 44 c.in-Some-split_first.next.now end c.if-mark-ne44.true (sym spelled ∙ e))

pub pass_array-loop-behind-smaller : goal.pass_array-loop-behind-smaller
pass_array-loop-behind-smaller t c =
    shorter_rest _ _ (literal_length c.in_ok-pass_literal.ensures.1.2) (sym c.past_blanks-behind.ensures ∙ c.in-Some-split_first.ensures.cases.0)
    c.past_blanks-rest-in-loop-behind.ensures

pub pass_array-loop-behind-preserved : goal.pass_array-loop-behind-preserved
pass_array-loop-behind-preserved t c =
    some_items_next {levels = c.args.levels} (omega (arith, c.if-levels-eq0.false)) c.loop-behind.invariant c.in_ok-pass_literal.ensures.1
    (sym c.past_blanks-behind.ensures ∙ c.in-Some-split_first.ensures.cases.0 ∙ ap (λ b. b ∷ c.in-Some-split_first.next.now) c.if-mark-ne44.false)
    c.past_blanks-rest-in-loop-behind.ensures

pub pass_literal-returns-in-Some : goal.pass_literal-returns-in-Some
pass_literal-returns-in-Some t c =
    let opens = behind_prefix c.args.bytes.now c.strip_prefix.ensures.cases c.as_slice.ensures c.in-Some.is in
    rw opens (array_passed c.args.levels c.in-Some.inside.now c.pass_array.result c.pass_array.ensures)

pub pass_literal-returns-in-Some-strip_prefix : goal.pass_literal-returns-in-Some-strip_prefix
pass_literal-returns-in-Some-strip_prefix t c =
    let opens = behind_prefix c.args.bytes.now c.strip_prefix-in_default.ensures.cases c.as_slice-in_default.ensures c.in-Some-strip_prefix.is in
    rw opens (map_passed c.args.levels c.in-Some-strip_prefix.inside.now c.pass_map.result c.pass_map.ensures)

pub pass_literal-returns-in_default-strip_prefix : goal.pass_literal-returns-in_default-strip_prefix
pass_literal-returns-in_default-strip_prefix t c =
    c.pass_flat.ensures c.args.levels
    (no_prefix c.args.bytes.now c.strip_prefix.ensures.cases c.as_slice.ensures c.in_default.is)
    (no_prefix c.args.bytes.now c.strip_prefix-in_default.ensures.cases c.as_slice-in_default.ensures c.in_default-strip_prefix.is)

pub pass_map-loop-behind-init : goal.pass_map-loop-behind-init
pass_map-loop-behind-init t c =
    no_pairs_if c.args.texts c.past_blanks-rest.ensures
    (no_prefix c.past_blanks-rest.result.now c.strip_prefix.ensures.cases c.as_slice.ensures c.in_default.is)

pub pass_map-returns-in_err-pass_pair : goal.pass_map-returns-in_err-pass_pair
pass_map-returns-in_err-pass_pair t c =
    let p = err_from_is_err_and c.from_residual.result c.from_residual.ensures.1 in
    rw (p.1) (no_pair_if c.args.texts c.loop-behind.invariant (omega (arith, c.if-levels-eq0.false)) c.in_err-pass_pair.ensures)

pub pass_map-returns-in_default-split_first : goal.pass_map-returns-in_default-split_first
pass_map-returns-in_default-split_first t c =
    no_end_if c.args.texts c.loop-behind.invariant (omega (arith, c.if-levels-eq0.false)) c.in_ok-pass_pair.ensures.1
    (sym (ap length c.past_blanks-behind.ensures) ∙ c.in_default-split_first.ensures.cases)

pub pass_map-returns-then-mark-eq125 : goal.pass_map-returns-then-mark-eq125
pass_map-returns-then-mark-eq125 t c = (
  _,
  last_if c.args.texts c.loop-behind.invariant (omega (arith, c.if-levels-eq0.false)) c.in_ok-pass_pair.ensures.1
      (sym c.past_blanks-behind.ensures ∙ c.in-Some-split_first.ensures.cases.0 ∙ ap (λ b. b ∷ c.in-Some-split_first.next.now) c.if-mark-eq125.true),
)

pub pass_map-returns-then-mark-ne44 : goal.pass_map-returns-then-mark-ne44
pass_map-returns-then-mark-ne44 t c =
    let spelled = sym c.past_blanks-behind.ensures ∙ c.in-Some-split_first.ensures.cases.0 in
    no_mark_if c.args.texts c.loop-behind.invariant (omega (arith, c.if-levels-eq0.false)) c.in_ok-pass_pair.ensures.1
    (λ end e. other_byte c.in-Some-split_first.mark.now 125 c.in-Some-split_first.next.now end c.if-mark-eq125.false (sym spelled ∙ e))
    (λ end e. other_byte c.in-Some-split_first.mark.now 44 c.in-Some-split_first.next.now end c.if-mark-ne44.true (sym spelled ∙ e))

pub pass_map-loop-behind-smaller : goal.pass_map-loop-behind-smaller
pass_map-loop-behind-smaller t c =
    shorter_rest _ _ (pair_length c.in_ok-pass_pair.ensures.1.0.0) (sym c.past_blanks-behind.ensures ∙ c.in-Some-split_first.ensures.cases.0)
    c.past_blanks-rest-in-loop-behind.ensures

pub pass_map-loop-behind-preserved : goal.pass_map-loop-behind-preserved
pass_map-loop-behind-preserved t c =
    next_if c.args.texts c.loop-behind.invariant {levels = c.args.levels} (omega (arith, c.if-levels-eq0.false)) c.in_ok-pass_pair.ensures.1
    (sym c.past_blanks-behind.ensures ∙ c.in-Some-split_first.ensures.cases.0 ∙ ap (λ b. b ∷ c.in-Some-split_first.next.now) c.if-mark-ne44.false)
    c.past_blanks-rest-in-loop-behind.ensures

pub pass_pair-returns-in_err-pass_key : goal.pass_pair-returns-in_err-pass_key
pass_pair-returns-in_err-pass_key t c =
    let p = err_from_is_err_and c.from_residual.result c.from_residual.ensures.1 in
    rw (p.1) (no_key_if c.args.texts c.in_err-pass_key.ensures)

pub pass_pair-returns-in-None : goal.pass_pair-returns-in-None
pass_pair-returns-in-None t c = no_colon_if c.args.texts c.in_ok-pass_key.ensures.1 (λ next e.
    no_prefix c.past_blanks-after.result.now c.strip_prefix.ensures.cases c.as_slice.ensures c.in-None.is next (c.past_blanks-after.ensures ∙ e))

pub pass_pair-returns-in-Some : goal.pass_pair-returns-in-Some
pass_pair-returns-in-Some t c =
    let stripped = behind_prefix c.past_blanks-after.result.now c.strip_prefix.ensures.cases c.as_slice.ensures c.in-Some.is in
    value_if c.args.texts c.in_ok-pass_key.ensures.1 (sym c.past_blanks-after.ensures ∙ stripped) c.args.levels c.pass_literal.result
    (subst (λ ys. Passes (IsLiteralAt c.args.levels ys) c.pass_literal.result) c.past_blanks.ensures c.pass_literal.ensures)

pub pass_array-returns-in-Some : goal.pass_array-returns-in-Some
pass_array-returns-in-Some t c = (
  array no_items,
  (
    no_items,
    refl,
    sym c.past_blanks-rest.ensures ∙ behind_prefix c.past_blanks-rest.result.now c.strip_prefix.ensures.cases c.as_slice.ensures c.in-Some.is,
    omega (arith, c.if-levels-eq0.false),
  ),
)

pub pass_map-returns-in-Some : goal.pass_map-returns-in-Some
pass_map-returns-in-Some t c = (
  no_members,
  (
    sym c.past_blanks-rest.ensures ∙ behind_prefix c.past_blanks-rest.result.now c.strip_prefix.ensures.cases c.as_slice.ensures c.in-Some.is,
    omega (arith, c.if-levels-eq0.false),
  ),
)
