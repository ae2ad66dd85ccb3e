-- Being one of a list, by recursion.
use Rattle.std.specs.Prelude.{◌≡◌, ◌⊎◌, suc, List, [], ◌∷◌}
use Rattle.std.proofs.Common.{sym, inl, inr, arith, rules}
use Rattle.std.specs.List.{Contains}

abbrev pub Among : {X : Type 0} → List X → X → Type 0
Among [] x = ⊥
Among (y ∷ ys) x = (x ≡ y) ⊎ Among ys x

pub among : {X : Type 0} (xs : List X) (x : X) → Contains xs x → Among xs x
among (y ∷ ys) x (suc k, below, is) = search (rules, (among ys x (k, omega arith, is)))
among x0 x x2 = search rules

pub contained : {X : Type 0} (xs : List X) (x : X) → Among xs x → Contains xs x
contained [] x a = absurd a
contained (y ∷ ys) x (inl e) = (0, omega arith, sym e)
contained (y ∷ ys) x (inr a) = let c : Contains ys x = contained ys x a in (suc c.0, omega (arith, c.1), c.2)
