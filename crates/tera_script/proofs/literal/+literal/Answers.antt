use Rattle.std.proofs.Common.{◌∷◌, length, None, Some, ap, sym, ◌∙◌, arith, subst}
use Rattle.std.proofs.lemmas.Result.{IfOk-weaker}
use Rattle.tera_script.specs.Readers.{IsLiteralAt}
use Rattle.tera_script.proofs.Arrays.{no_items_yet, no_item, no_item_mark, no_item_end, last_item, next_item}
use Rattle.tera_script.proofs.Bare.{bracket_opens, brace_opens, number_stands}
use Rattle.tera_script.proofs.Fronts.{no_prefix, behind_prefix}
use Rattle.tera_script.proofs.Literals.{literal_found, other_byte}
use Rattle.tera_script.proofs.Maps.{no_pairs_yet, no_more_pair, no_pair_mark, no_pair_end, last_pair, next_pair, no_pair_key, no_colon, no_pair_value}
use Rattle.tera_script.proofs.Maps.{pair_found}
use Rattle.tera_script.proofs.Series.{literal_length, pair_length, shorter_rest}
use Rattle.tera_values.specs.Key.{key_form}
use Rattle.tera_script.proofs.literal.+literal.Goals as goal

pub take_array-loop-items-init : goal.take_array-loop-items-init
take_array-loop-items-init t c =
    no_items_yet c.new-items.ensures.items c.past_blanks-rest.ensures
    (no_prefix c.past_blanks-rest.result.now c.strip_prefix.ensures.cases c.as_slice.ensures c.in_default.is)

pub take_array-returns-in_default-2 : goal.take_array-returns-in_default-2
take_array-returns-in_default-2 t c =
    no_item c.loop-items.invariant (omega (arith, c.if-levels-eq0.false)) (rw (c.in_default-2.is) at c.in_ok-item.ensures.literal)

pub take_array-returns-in_default-split_first : goal.take_array-returns-in_default-split_first
take_array-returns-in_default-split_first t c =
    no_item_end c.loop-items.invariant (omega (arith, c.if-levels-eq0.false)) (rw (c.in-Some-2.is) at c.in_ok-item.ensures.literal)
    (sym (ap length c.past_blanks.ensures) ∙ c.in_default-split_first.ensures.cases)

pub take_array-returns-then-mark-eq93 : goal.take_array-returns-then-mark-eq93
take_array-returns-then-mark-eq93 t c =
    last_item c.loop-items.invariant (omega (arith, c.if-levels-eq0.false)) (rw (c.in-Some-2.is) at c.in_ok-item.ensures.literal) c.in_ok-push.ensures.items
    c.of_array-then-mark-eq93.ensures
    (sym c.past_blanks.ensures ∙ c.in-Some-split_first.ensures.cases.0 ∙ ap (λ b. b ∷ c.in-Some-split_first.next.now) c.if-mark-eq93.true)

pub take_array-returns-then-mark-ne44 : goal.take_array-returns-then-mark-ne44
take_array-returns-then-mark-ne44 t c =
    let spelled = sym c.past_blanks.ensures ∙ c.in-Some-split_first.ensures.cases.0 in
    no_item_mark c.loop-items.invariant (omega (arith, c.if-levels-eq0.false)) (rw (c.in-Some-2.is) at c.in_ok-item.ensures.literal)
    (λ end e. other_byte c.in-Some-split_first.mark.now 93 c.in-Some-split_first.next.now end c.if-mark-eq93.false (sym spelled ∙ e))
    (λ end e. other_byte c.in-Some-split_first.mark.now 44 c.in-Some-split_first.next.now end c.if-mark-ne44.true (sym spelled ∙ e))

pub take_array-loop-items-smaller : goal.take_array-loop-items-smaller
take_array-loop-items-smaller t c =
    let found = rw (c.in-Some-2.is) at c.in_ok-item.ensures.literal in
    shorter_rest _ _ (literal_length found.2) (sym c.past_blanks.ensures ∙ c.in-Some-split_first.ensures.cases.0) c.past_blanks-rest-in-loop-items.ensures

pub take_array-loop-items-preserved : goal.take_array-loop-items-preserved
take_array-loop-items-preserved t c =
    next_item c.loop-items.invariant {levels = c.args.levels} (omega (arith, c.if-levels-eq0.false)) (rw (c.in-Some-2.is) at c.in_ok-item.ensures.literal)
    c.in_ok-push.ensures.items
    (sym c.past_blanks.ensures ∙ c.in-Some-split_first.ensures.cases.0 ∙ ap (λ b. b ∷ c.in-Some-split_first.next.now) c.if-mark-ne44.false)
    c.past_blanks-rest-in-loop-items.ensures

pub take_literal-returns-in-Some-clause-literal : goal.take_literal-returns-in-Some-clause-literal
take_literal-returns-in-Some-clause-literal t c =
    number_stands c.args.levels c.args.bytes.now _ (rw (c.in-Some.is) at c.take_number.ensures)

pub take_literal-returns-in-Some-strip_prefix-clause-literal : goal.take_literal-returns-in-Some-strip_prefix-clause-literal
take_literal-returns-in-Some-strip_prefix-clause-literal t c =
    let opens = behind_prefix c.args.bytes.now c.strip_prefix.ensures.cases c.as_slice.ensures c.in-Some-strip_prefix.is in
    IfOk-weaker c.take_array.result _ _ (λ answer h. literal_found c.args.levels c.args.bytes.now _ (rw opens h)) c.take_array.ensures

pub take_literal-returns-in-Some-strip_prefix-2-clause-literal : goal.take_literal-returns-in-Some-strip_prefix-2-clause-literal
take_literal-returns-in-Some-strip_prefix-2-clause-literal t c =
    let opens = behind_prefix c.args.bytes.now c.strip_prefix-in_default-strip_prefix.ensures.cases c.as_slice-in_default-strip_prefix.ensures
    c.in-Some-strip_prefix-2.is in
    IfOk-weaker c.take_map.result _ _ (λ answer h. literal_found c.args.levels c.args.bytes.now _ (rw opens h)) c.take_map.ensures

pub take_literal-returns-in_default-strip_prefix-2-clause-literal : goal.take_literal-returns-in_default-strip_prefix-2-clause-literal
take_literal-returns-in_default-strip_prefix-2-clause-literal t c =
    let no_array = no_prefix c.args.bytes.now c.strip_prefix.ensures.cases c.as_slice.ensures c.in_default-strip_prefix.is in
    let no_map = no_prefix c.args.bytes.now c.strip_prefix-in_default-strip_prefix.ensures.cases c.as_slice-in_default-strip_prefix.ensures
    c.in_default-strip_prefix-2.is in
    IfOk-weaker c.take_flat.result _ _ (λ answer h. h c.args.levels no_array no_map) c.take_flat.ensures.literal

pub take_map-loop-pairs-init : goal.take_map-loop-pairs-init
take_map-loop-pairs-init t c =
    no_pairs_yet c.with_hasher-pairs.ensures c.past_blanks-rest.ensures
    (no_prefix c.past_blanks-rest.result.now c.strip_prefix.ensures.cases c.as_slice.ensures c.in_default.is)

pub take_map-returns-in_default-2 : goal.take_map-returns-in_default-2
take_map-returns-in_default-2 t c =
    no_more_pair c.loop-pairs.invariant (omega (arith, c.if-levels-eq0.false)) (rw (c.in_default-2.is) at c.in_ok-behind.ensures)

pub take_map-returns-in_default-split_first : goal.take_map-returns-in_default-split_first
take_map-returns-in_default-split_first t c =
    let found = rw (c.in-Some-2.is) at c.in_ok-behind.ensures in
    no_pair_end c.loop-pairs.invariant (omega (arith, c.if-levels-eq0.false)) found.2
    (sym (ap length c.past_blanks.ensures) ∙ c.in_default-split_first.ensures.cases)

pub take_map-returns-then-mark-eq125 : goal.take_map-returns-then-mark-eq125
take_map-returns-then-mark-eq125 t c =
    let found = rw (c.in-Some-2.is) at c.in_ok-behind.ensures in
    last_pair c.loop-pairs.invariant (omega (arith, c.if-levels-eq0.false)) found.2 found.3
    c.of_map-then-mark-eq125.ensures
    (sym c.past_blanks.ensures ∙ c.in-Some-split_first.ensures.cases.0 ∙ ap (λ b. b ∷ c.in-Some-split_first.further.now) c.if-mark-eq125.true)

pub take_map-returns-then-mark-ne44 : goal.take_map-returns-then-mark-ne44
take_map-returns-then-mark-ne44 t c =
    let found = rw (c.in-Some-2.is) at c.in_ok-behind.ensures in
    let spelled = sym c.past_blanks.ensures ∙ c.in-Some-split_first.ensures.cases.0 in
    no_pair_mark c.loop-pairs.invariant (omega (arith, c.if-levels-eq0.false)) found.2
    (λ end e. other_byte c.in-Some-split_first.mark.now 125 c.in-Some-split_first.further.now end c.if-mark-eq125.false (sym spelled ∙ e))
    (λ end e. other_byte c.in-Some-split_first.mark.now 44 c.in-Some-split_first.further.now end c.if-mark-ne44.true (sym spelled ∙ e))

pub take_map-loop-pairs-smaller : goal.take_map-loop-pairs-smaller
take_map-loop-pairs-smaller t c =
    let found = rw (c.in-Some-2.is) at c.in_ok-behind.ensures in
    shorter_rest _ _ (pair_length found.2.2) (sym c.past_blanks.ensures ∙ c.in-Some-split_first.ensures.cases.0) c.past_blanks-rest-in-loop-pairs.ensures

pub take_map-loop-pairs-preserved : goal.take_map-loop-pairs-preserved
take_map-loop-pairs-preserved t c =
    let found = rw (c.in-Some-2.is) at c.in_ok-behind.ensures in
    next_pair c.loop-pairs.invariant {levels = c.args.levels} (omega (arith, c.if-levels-eq0.false)) found.2 found.3
    (sym c.past_blanks.ensures ∙ c.in-Some-split_first.ensures.cases.0 ∙ ap (λ b. b ∷ c.in-Some-split_first.further.now) c.if-mark-ne44.false)
    c.past_blanks-rest-in-loop-pairs.ensures

pub take_pair-returns-in_default : goal.take_pair-returns-in_default
take_pair-returns-in_default t c = no_pair_key (rw (c.in_default.is) at c.in_ok-key.ensures.key)

pub take_pair-returns-in_default-strip_prefix : goal.take_pair-returns-in_default-strip_prefix
take_pair-returns-in_default-strip_prefix t c = no_colon (rw (c.in-Some.is) at c.in_ok-key.ensures.key) (λ next e.
    no_prefix c.past_blanks.result.now c.strip_prefix.ensures.cases c.as_slice.ensures c.in_default-strip_prefix.is next (c.past_blanks.ensures ∙ e))

pub take_pair-returns : goal.take_pair-returns
take_pair-returns t c =
    let stripped = behind_prefix c.past_blanks.result.now c.strip_prefix.ensures.cases c.as_slice.ensures c.in-Some-strip_prefix.is in
    let value = subst (λ ys. IsLiteralAt c.args.levels ys (Some (c.in-Some-2.value, c.in-Some-2.rest.now))) c.past_blanks-2.ensures
    (rw (c.in-Some-2.is) at c.in_ok-value.ensures.literal) in
    let pair = pair_found (rw (c.in-Some.is) at c.in_ok-key.ensures.key) (sym c.past_blanks.ensures ∙ stripped) value in
    (key_form c.in-Some.key, c.in-Some-2.value, pair, c.in_ok-put_pair.ensures)

pub take_pair-returns-in_default-2 : goal.take_pair-returns-in_default-2
take_pair-returns-in_default-2 t c =
    let stripped = behind_prefix c.past_blanks.result.now c.strip_prefix.ensures.cases c.as_slice.ensures c.in-Some-strip_prefix.is in
    no_pair_value (rw (c.in-Some.is) at c.in_ok-key.ensures.key) (sym c.past_blanks.ensures ∙ stripped)
    (subst (λ ys. IsLiteralAt c.args.levels ys None) c.past_blanks-2.ensures (rw (c.in_default-2.is) at c.in_ok-value.ensures.literal))

pub take_literal-returns-in-Some-strip_prefix-clause-free : goal.take_literal-returns-in-Some-strip_prefix-clause-free
take_literal-returns-in-Some-strip_prefix-clause-free t c = λ h. absurd
    (bracket_opens (behind_prefix c.args.bytes.now c.strip_prefix.ensures.cases c.as_slice.ensures c.in-Some-strip_prefix.is) h)

pub take_literal-returns-in-Some-strip_prefix-2-clause-free : goal.take_literal-returns-in-Some-strip_prefix-2-clause-free
take_literal-returns-in-Some-strip_prefix-2-clause-free t c = λ h.
    let opens = behind_prefix c.args.bytes.now c.strip_prefix-in_default-strip_prefix.ensures.cases c.as_slice-in_default-strip_prefix.ensures
    c.in-Some-strip_prefix-2.is in
    absurd (brace_opens opens h)
