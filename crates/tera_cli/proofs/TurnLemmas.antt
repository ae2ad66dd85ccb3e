-- What is done in turn, up to a fault.
use Rattle.std.proofs.Common.{◌≡◌, ◌≢◌, ℕ, List, [], ◌∷◌, refl, sym, subst, inl, inr}
use Rattle.tera_cli.specs.Turns.{UpToAFault}

-- what is done of the items that are left is what is done of all
pub record Rest {A X : Type 0} (Does : A → X → ℕ → X → Type 0) (all : List A) (start : X) (left : List A) (now : X) : Type 0 where
  pub joins : (status : ℕ) (new : X) → UpToAFault Does left now status new → UpToAFault Does all start status new

pub all_left : {A X : Type 0} (Does : A → X → ℕ → X → Type 0) (all : List A) (start : X) → Rest Does all start all start
all_left Does all start = record { joins = λ status new h. h }

module _ {A X : Type 0} (Does : A → X → ℕ → X → Type 0) {all : List A} {start now : X} {left : List A} (rest : Rest Does all start left now) where
  pub one_done : (item : A) (later : List A) (next : X) → left ≡ item ∷ later → Does item now 0 next → Rest Does all start later next
  one_done item later next e d = record {
    joins = λ status new h. rest.joins status new (subst (λ items. UpToAFault Does items now status new) (sym e) (inr (next, d, h)));
  }

  pub fault_ends : (item : A) (later : List A) (status : ℕ) (new : X) → left ≡ item ∷ later → status ≢ 0 → Does item now status new
      → UpToAFault Does all start status new
  fault_ends item later status new e n d = rest.joins status new (subst (λ items. UpToAFault Does items now status new) (sym e) (inl (n, d)))

  pub none_left : left ≡ [] → UpToAFault Does all start 0 now
  none_left e = rest.joins 0 now (subst (λ items. UpToAFault Does items now 0 now) (sym e) (refl, refl))
