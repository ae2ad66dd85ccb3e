use Rattle.std.proofs.Common.{◌≡◌, ◌∙◌, sym, ap}
use Rattle.std.specs.Option.{option_map}
use Rattle.tera_meaning.specs.Pairs.{key_form_order, value_at}
use Rattle.tera_values.specs.Key.{key_form}
use Rattle.tera_values.specs.inner.MapDifference.{least_met, lacking, difference_at, met}
use Rattle.tera_values.proofs.MapDifferenceLemmas.{met_below, met_not_below}
use Rattle.tera_values.proofs.map_difference.least_absent.Goals as goal

pub loop-key-preserved-then-is_below : goal.loop-key-preserved-then-is_below
loop-key-preserved-then-is_below c =
    let k = key_form c.in-Some.key.now in
    let rest = c.next.new.self in
    let ps = c.args.left.now in
    let least = option_map (λ d. (key_form d.0.now, d.1)) c.loop-key.least in
    let how = lacking (value_at key_form_order ps k) in
    let new : option_map (λ d. (key_form d.0.now, d.1)) c.difference_at-least.result ≡ met least k how =
    c.difference_at-least.ensures
    ∙ ap (λ h. difference_at h k least) (c.lacking.ensures ∙ ap lacking c.get.ensures)
    ∙ sym (met_below least k how (sym c.is_below.ensures ∙ c.if-is_below.true)) in
    ap (λ l. least_met (λ e. lacking (value_at key_form_order ps e.0)) l rest) new
    ∙ sym (ap (λ l. least_met (λ e. lacking (value_at key_form_order ps e.0)) least l) c.in-Some.ensures.steps)
    ∙ c.loop-key.invariant

pub loop-key-preserved : goal.loop-key-preserved
loop-key-preserved c =
    let k = key_form c.in-Some.key.now in
    let rest = c.next.new.self in
    let ps = c.args.left.now in
    let least = option_map (λ d. (key_form d.0.now, d.1)) c.loop-key.least in
    let how = lacking (value_at key_form_order ps k) in
    let new : met least k how ≡ least = met_not_below least k how (sym c.is_below.ensures ∙ c.if-is_below.false) in
    ap (λ l. least_met (λ e. lacking (value_at key_form_order ps e.0)) l rest) (sym new)
    ∙ sym (ap (λ l. least_met (λ e. lacking (value_at key_form_order ps e.0)) least l) c.in-Some.ensures.steps)
    ∙ c.loop-key.invariant
