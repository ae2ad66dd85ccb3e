use Rattle.std.proofs.Common.{◌≡◌, Some, ◌<◌, ◌≤◌, ◌∙◌, arith, sym, ap, subst, true, false, not, min, length}
use Rattle.std.specs.Option.{option_map}
use Rattle.tera_meaning.specs.Meaning.{meaning}
use Rattle.tera_meaning.specs.Order.{compare}
use Rattle.tera_meaning.specs.Tree.{array, object, items, members, members_depth}
use Rattle.tera_meaning.specs.Form.{Form}
use Rattle.tera_meaning.specs.KeyMeaning.{KeyForm}
use Rattle.tera_meaning.specs.Pairs.{key_form_order, value_at}
use Rattle.tera_values.specs.Key.{key_form}
use Rattle.tera_values.specs.inner.MapDifference.{IsDifference, least_met, differing, lacking, difference_at, met}
use Rattle.tera_values.proofs.MapDifferenceLemmas.{from_left, met_below, met_not_below, by_held, by_left, by_right, all_tie, walks_meet_least, one_walk}
use Rattle.tera_values.proofs.MapDifferenceLemmas.{none_found}
use Rattle.tera_values.proofs.PartsLaws.{depth_at, first_depth, array_of_items, map_of_members, order_ended}
use Rattle.tera_values.proofs.+order.Goals as goal

pub compare::array_order-returns-in-Some : goal.compare::array_order-returns-in-Some
compare::array_order-returns-in-Some t c =
    let right = array_of_items c.args.right.now c.in-Some.all.now c.in-Some.ensures in
    c.items_order.ensures ∙ ap (λ v. compare (meaning (array (items c.args.left.now))) (meaning v)) right

pub compare::items_order-item_order-first-requires : goal.compare::items_order-item_order-first-requires
compare::items_order-item_order-first-requires t c =
    let item = c.index-left-place in
    let inside : c.loop-place.place < length c.args.left.now = omega (arith, c.loop-place-test.true, c.min-place-end.ensures) in
    let less_deep = depth_at c.args.left.now c.loop-place.place item.result inside item.is in
    (omega (arith, less_deep), tt)

pub compare::items_order-returns : goal.compare::items_order-returns
compare::items_order-returns t c =
    let left = c.args.left.now in
    let right = c.args.right.now in
    let l = c.loop-place in
    let ended : l.place ≡ min (length left) (length right) = omega (arith, c.loop-place-test.false, l.auto.place-end, c.min-place-end.ensures) in
    c.cmp.ensures ∙ sym (l.invariant ∙ order_ended left right l.place ended)

pub compare::map_order-returns-in-Some : goal.compare::map_order-returns-in-Some
compare::map_order-returns-in-Some t c =
    let right = map_of_members c.args.right.now c.in-Some.all.now c.in-Some.ensures in
    c.pairs_order.ensures ∙ ap (λ v. compare (meaning (object (members c.args.left.now))) (meaning v)) right

pub compare::pairs_order-returns-in-Some-default-Values : goal.compare::pairs_order-returns-in-Some-default-Values
compare::pairs_order-returns-in-Some-default-Values t c =
    let d = c.in-Some-default-Values in
    by_held c.args.left.now c.args.right.now (key_form d.field-0-0.now) d.ensures.0 d.order
    (d.ensures.1 ∙ ap Some d.field-0-1-is)

pub compare::pairs_order-returns-then-goes_on : goal.compare::pairs_order-returns-then-goes_on
compare::pairs_order-returns-then-goes_on t c =
    let d = c.in-Some-default-LeftAlone in
    by_left c.args.left.now c.args.right.now (key_form d.key.now) d.ensures.0 true (d.ensures.1 ∙ ap Some d.field-0-1-is)
    (sym c.goes_on.ensures ∙ c.if-goes_on.true)

pub compare::pairs_order-returns-else-goes_on : goal.compare::pairs_order-returns-else-goes_on
compare::pairs_order-returns-else-goes_on t c =
    let d = c.in-Some-default-LeftAlone in
    by_left c.args.left.now c.args.right.now (key_form d.key.now) d.ensures.0 false (d.ensures.1 ∙ ap Some d.field-0-1-is)
    (sym c.goes_on.ensures ∙ c.if-goes_on.false)

pub compare::pairs_order-returns-then-goes_on-2 : goal.compare::pairs_order-returns-then-goes_on-2
compare::pairs_order-returns-then-goes_on-2 t c =
    let d = c.in-Some-default-RightAlone in
    by_right c.args.left.now c.args.right.now (key_form d.key.now) d.ensures.0 true (d.ensures.1 ∙ ap Some d.field-0-1-is)
    (sym c.goes_on-in-Some-default-RightAlone.ensures ∙ c.if-goes_on-2.true)

pub compare::pairs_order-returns-else-goes_on-2 : goal.compare::pairs_order-returns-else-goes_on-2
compare::pairs_order-returns-else-goes_on-2 t c =
    let d = c.in-Some-default-RightAlone in
    by_right c.args.left.now c.args.right.now (key_form d.key.now) d.ensures.0 false
    (d.ensures.1 ∙ ap Some d.field-0-1-is) (sym c.goes_on-in-Some-default-RightAlone.ensures ∙ c.if-goes_on-2.false)

pub compare::pairs_order-returns-in-None : goal.compare::pairs_order-returns-in-None
compare::pairs_order-returns-in-None t c =
    sym (all_tie c.args.left.now c.args.right.now c.in-None.ensures)

pub map_difference::least_difference-returns : goal.map_difference::least_difference-returns
map_difference::least_difference-returns t c =
    let es = c.args.left.now in
    let fs = c.args.right.now in
    let met = c.least_absent.ensures.least
    ∙ ap (λ l. least_met (λ e. lacking (value_at key_form_order es e.0)) l fs) c.least_differing-found.ensures.least in
    subst (IsDifference es fs) (sym met) (walks_meet_least es fs c.least_differing-found.ensures.distinct c.least_absent.ensures.distinct)

pub map_difference::least_difference-returns-then-len : goal.map_difference::least_difference-returns-then-len
map_difference::least_difference-returns-then-len t c =
    let es = c.args.left.now in
    let fs = c.args.right.now in
    let none = none_found (λ d. (key_form d.0.now, d.1)) c.least_differing-found.result (c.is_none.ensures ∙ ap not c.if-is_none.true) in
    let even = sym c.len.ensures.len ∙ c.if-len.true ∙ c.len-then-is_none.ensures.len in
    one_walk es fs c.len.ensures.distinct c.len-then-is_none.ensures.distinct (sym c.least_differing-found.ensures.least ∙ none) even

pub map_difference::least_differing-differing-requires : goal.map_difference::least_differing-differing-requires
map_difference::least_differing-differing-requires t c =
    let p : KeyForm × Form = (key_form c.in-Some.key.now, c.in-Some.value.now) in
    let less_deep = first_depth c.loop-key.key-iterator c.next.new.self p c.in-Some.ensures.steps in
    let within = c.loop-key.invariant.within in
    (omega (arith, less_deep.0, within), tt)

pub map_difference::least_differing-loop-key-preserved-then-is_below : goal.map_difference::least_differing-loop-key-preserved-then-is_below
map_difference::least_differing-loop-key-preserved-then-is_below t c =
    let k = key_form c.in-Some.key.now in
    let p : KeyForm × Form = (k, c.in-Some.value.now) in
    let left = c.loop-key.key-iterator in
    let rest = c.next.new.self in
    let qs = c.args.right.now in
    let less_deep = first_depth left rest p c.in-Some.ensures.steps in
    let within = c.loop-key.invariant.within in
    let no_deeper : members_depth (members rest) ≤ members_depth (members c.args.left.now) = omega (arith, less_deep.1, within) in
    let least = option_map (λ d. (key_form d.0.now, d.1)) c.loop-key.least in
    let new : option_map (λ d. (key_form d.0.now, d.1)) c.difference_at-least.result ≡ met least k (from_left qs p) = c.difference_at-least.ensures
    ∙ ap (λ h. difference_at h k least) (c.differing.ensures ∙ ap (differing (Some c.in-Some.value.now)) c.get.ensures)
    ∙ sym (met_below least k (from_left qs p) (sym c.is_below.ensures ∙ c.if-is_below.true)) in
    record {
      within = no_deeper;
      least = ap (λ l. least_met (from_left qs) l rest) new
          ∙ sym (ap (λ l. least_met (from_left qs) least l) c.in-Some.ensures.steps)
          ∙ c.loop-key.invariant.least;
    }

pub map_difference::least_differing-loop-key-preserved : goal.map_difference::least_differing-loop-key-preserved
map_difference::least_differing-loop-key-preserved t c =
    let k = key_form c.in-Some.key.now in
    let p : KeyForm × Form = (k, c.in-Some.value.now) in
    let left = c.loop-key.key-iterator in
    let rest = c.next.new.self in
    let qs = c.args.right.now in
    let less_deep = first_depth left rest p c.in-Some.ensures.steps in
    let within = c.loop-key.invariant.within in
    let no_deeper : members_depth (members rest) ≤ members_depth (members c.args.left.now) = omega (arith, less_deep.1, within) in
    let least = option_map (λ d. (key_form d.0.now, d.1)) c.loop-key.least in
    let new : met least k (from_left qs p) ≡ least = met_not_below least k (from_left qs p) (sym c.is_below.ensures ∙ c.if-is_below.false) in
    record {
      within = no_deeper;
      least = ap (λ l. least_met (from_left qs) l rest) (sym new)
          ∙ sym (ap (λ l. least_met (from_left qs) least l) c.in-Some.ensures.steps)
          ∙ c.loop-key.invariant.least;
    }
