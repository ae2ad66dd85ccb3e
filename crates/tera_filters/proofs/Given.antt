-- What is taken of arguments, and what is refused of them.
use Rattle.std.specs.Prelude.{◌≡◌, ℕ, List, Option, Some, None, Result, Ok, Err, IsOk, MatchOption, refl}
use Rattle.std.specs.Option.{IsSomeAnd, option_map}
use Rattle.std.proofs.Common.{ap, sym, subst}
use Rattle.tera.specs.Arithmetic.{and_then, each_ok}
use Rattle.tera.specs.Errors.{Raises, Refuses}
use Rattle.tera.specs.Form.{Form}
use Rattle.tera.specs.Named.{TakesArgument}
use Rattle.tera.specs.Refusal.{Refusal, missing_argument}
use Rattle.tera.specs.Taken.{Denies}
use Rattle.tera.specs.types.Error.{Error}
use Rattle.tera_filters.specs.Arguments.{where_needed, where_there}

module _ {X : Type 0} (taken : Form → Result X Refusal) where
  denied : (r : Result X Refusal) (e : Error) → Denies r e → Refuses r e
  denied (Ok x) e is = elim is [ ]
  denied (Err refusal) e is = is

  denied_each : (r : Result X Refusal) (e : Error) → Denies r e → Refuses (each_ok (λ x. Some x) r) e
  denied_each (Ok x) e is = elim is [ ]
  denied_each (Err refusal) e is = is

  pub taken_where_needed : (name : List ℕ) (given : Option Form) (x : X) → IsSomeAnd given (λ v. taken v ≡ Ok x)
      → where_needed taken name given ≡ Ok x
  taken_where_needed name None x is = elim is [ ]
  taken_where_needed name (Some v) x is = is

  pub denied_where_needed : (name : List ℕ) (given : Option Form) (e : Error)
      → MatchOption given (Raises (missing_argument name) e) (λ v. Denies (taken v) e) → Refuses (where_needed taken name given) e
  denied_where_needed name None e is = is
  denied_where_needed name (Some v) e is = denied (taken v) e is

  pub taken_where_there : {Y : Type 0} (f : Y → X) (given : Option Form) (y : Option Y)
      → TakesArgument (λ v z. taken v ≡ Ok (f z)) given y → where_there taken given ≡ Ok (option_map f y)
  taken_where_there f None None is = refl
  taken_where_there f None (Some x) is = elim is [ ]
  taken_where_there f (Some v) None is = elim is [ ]
  taken_where_there f (Some v) (Some y) is = ap (each_ok (λ x. Some x)) is

  pub denied_where_there : (given : Option Form) (e : Error) → IsSomeAnd given (λ v. Denies (taken v) e)
      → Refuses (where_there taken given) e
  denied_where_there None e is = elim is [ ]
  denied_where_there (Some v) e is = denied_each (taken v) e is

-- where a step behind one gives something, that one does
pub first_gives : {X Y : Type 0} (r : Result X Refusal) (next : X → Result Y Refusal) (y : Y) → and_then r next ≡ Ok y → IsOk r
first_gives (Ok x) next y is = refl
first_gives (Err refusal) next y is = absurd (cc)

-- what a step behind one that gave something refuses, and what is made of a step that refuses
pub refuses_next : {X Y : Type 0} (r : Result X Refusal) (next : X → Result Y Refusal) (x : X) (e : Error) → r ≡ Ok x
    → Refuses (next x) e → Refuses (and_then r next) e
refuses_next r next x e is refused = subst (λ s. Refuses (and_then s next) e) (sym is) refused

pub refuses_each : {X Y : Type 0} (f : X → Y) (r : Result X Refusal) (e : Error) → Refuses r e → Refuses (each_ok f r) e
refuses_each f (Ok x) e is = is
refuses_each f (Err refusal) e is = is

pub mapped_to_itself : {X : Type 0} (o : Option X) → option_map (λ x. x) o ≡ o
mapped_to_itself None = refl
mapped_to_itself (Some x) = refl
