use Rattle.std.proofs.Common.{◌≡◌, reverse, rules, sym, ap, subst, ◌∙◌, arith}
use Rattle.std.proofs.lemmas.List.{with_items_is}
use Rattle.std.specs.Str.{IsUtf8}
use Rattle.tera_scalars.proofs.TurnLemmas.{turned_over, utf8_reversed}
use Rattle.tera_scalars.proofs.text.whole_turned.Goals as goal

pub from_utf8_unchecked-requires : goal.from_utf8_unchecked-requires
from_utf8_unchecked-requires c =
    let copied : c.in_ok-turned.turned.items ≡ c.args.text.now = search rules in
    let kept = with_items_is c.in_ok-turned.turned c.turn_each.new.bytes (omega (arith, c.turn_each.auto.bytes, c.deref_mut.ensures.len)) in
    let made = turned_over _ _ _ _ (c.deref_mut.ensures.value ∙ copied) c.turn_each.ensures (c.reverse.ensures.items ∙ ap reverse kept) in
    subst IsUtf8 (sym made) (utf8_reversed _ c.utf8.text)

pub returns : goal.returns
returns c =
    let copied : c.in_ok-turned.turned.items ≡ c.args.text.now = search rules in
    let kept = with_items_is c.in_ok-turned.turned c.turn_each.new.bytes (omega (arith, c.turn_each.auto.bytes, c.deref_mut.ensures.len)) in
    let made = turned_over _ _ _ _ (c.deref_mut.ensures.value ∙ copied) c.turn_each.ensures (c.reverse.ensures.items ∙ ap reverse kept) in
    ap (λ v. v.items) c.from_utf8_unchecked.ensures.value ∙ made
