use Rattle.std.proofs.Common.{◌≡◌, ◌∷◌, [], ◌++◌, ap, sym, ◌∙◌, subst, false, arith}
use Rattle.std.proofs.lemmas.Grind.{common_steps}
use Rattle.std.specs.List.{IsDistinct, list_any}
use Rattle.tera_values.specs.inner.Map.{keys_tie, keys_held}
use Rattle.tera_values.proofs.KeyLemmas.{one_more_distinct}
use Rattle.tera_values.proofs.map.keys.insert_key.Goals as goal

pub returns-then-place-lt-FEW-clause-distinct : goal.returns-then-place-lt-FEW-clause-distinct
returns-then-place-lt-FEW-clause-distinct c =
    let ks = keys_held c.args.keys.now in
    let is : ks ≡ c.in-Few.few.items = ap keys_held c.in-Few.is in
    let none : list_any (keys_tie c.args.key) ks ≡ false = grind (arith, common_steps) in
    let items : c.push_key.new.few.items ≡ ks ++ c.args.key ∷ [] = c.in_ok-push_key-in-Few.ensures.ok ∙ (λ j. sym is j ++ c.args.key ∷ []) in
    subst (IsDistinct keys_tie) (sym items) (one_more_distinct ks c.args.key c.requires none)
