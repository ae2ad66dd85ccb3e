use Rattle.std.proofs.Common.{refl, ap, sym, ◌∙◌, ◌≡◌, lit<}
use Rattle.std.proofs.lemmas.Iterator.Consumers.{YieldsList-at}
use Rattle.std.proofs.lemmas.Iterator.Splits.{YieldsList-from_str_split}
use Rattle.std.specs.Option.{option_copied}
use Rattle.std.specs.Str.Iter.{split_steps}
use Rattle.std.specs.Str.Pattern.{FindsChar}
use Rattle.tera_meaning.specs.Path.{elements_of, followed}
use Rattle.tera_values.proofs.PathLemmas.{leads_on, stops, arrives}
use Rattle.tera_values.proofs.path.follow.Goals as goal

pub loop-element-init : goal.loop-element-init
loop-element-init c =
    let items = c.split-element-items.ensures in
    let split = YieldsList-from_str_split 46 c.args.to.now (lit< tt) items.text items.has_more items.pattern in
    let whole = YieldsList-at c.into_iter-element-iterator.ensures.into_iter_gives split in
    (elements_of c.args.to.now, whole.runs, refl)

pub returns-in_err-here : goal.returns-in_err-here
returns-in_err-here c =
    let lost = sym c.reach.ensures ∙ ap option_copied c.in_err-here.was in
    ap option_copied c.from_residual.ensures
    ∙ sym (stops (split_steps FindsChar (λ a b. b ≡ a)) (followed c.args.value.now (elements_of c.args.to.now)) c.loop-element.element-iterator c.next.new.self
    c.in-Some.element c.loop-element.here.now c.loop-element.invariant c.in-Some.ensures.steps lost)

pub loop-element-preserved : goal.loop-element-preserved
loop-element-preserved c =
    let found = sym c.reach.ensures ∙ ap option_copied c.in_ok-here.was in
    leads_on (split_steps FindsChar (λ a b. b ≡ a)) (followed c.args.value.now (elements_of c.args.to.now)) c.loop-element.element-iterator c.next.new.self
    c.in-Some.element c.loop-element.here.now c.in_ok-here.here.now c.loop-element.invariant c.in-Some.ensures.steps found

pub returns : goal.returns
returns c =
    sym (arrives (split_steps FindsChar (λ a b. b ≡ a)) (followed c.args.value.now (elements_of c.args.to.now)) c.loop-element.element-iterator c.next.new.self
    c.loop-element.here.now c.loop-element.invariant c.in-None.ensures.steps)
