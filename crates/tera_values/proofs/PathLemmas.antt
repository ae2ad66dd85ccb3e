-- How a walk along the elements of a path goes on and ends.
use Rattle.std.specs.Prelude.{◌≡◌, ℕ, List, [], ◌∷◌, Option, Some, None}
use Rattle.std.proofs.Common.{◌∙◌, ap, sym, Bor}
use Rattle.std.specs.Iterator.{AlwaysYields}
use Rattle.std.specs.Option.{option_and_then}
use Rattle.tera_meaning.specs.Form.{Form}
use Rattle.tera_meaning.specs.Path.{place, followed, reached}

module _ {S : Type 0} (steps : S → Option (Bor (List ℕ)) → S → Type 0) where
  -- the elements that are left lead from here to what all lead to
  abbrev pub LeadsOn : Option Form → S → Form → Type 0
  LeadsOn all s here =
      (left : List (List ℕ)) × AlwaysYields steps (λ x. x.now) s left × (all ≡ followed here left)

  leads_on_along : (all : Option Form) (s t : S) (x : Bor (List ℕ)) (here next : Form) (left : List (List ℕ)) → AlwaysYields steps (λ x. x.now) s left → all
      ≡ followed here left
      → steps s (Some x) t → reached here x.now (place x.now) ≡ Some next → LeadsOn all t next
  leads_on_along all s t x here next [] never same step found = absurd (never x t step)
  leads_on_along all s t x here next (y ∷ ys) yields same step found =
      let more = yields.1 x t step in (
        ys,
        more.1,
        same ∙ ap (λ e. option_and_then (λ part. followed part ys) (reached here e (place e))) (sym more.0)
            ∙ ap (option_and_then (λ part. followed part ys)) found,
      )

  pub leads_on : (all : Option Form) (s t : S) (x : Bor (List ℕ)) (here next : Form) → LeadsOn all s here
      → steps s (Some x) t → reached here x.now (place x.now) ≡ Some next → LeadsOn all t next
  leads_on all s t x here next (left, yields, same) step found = leads_on_along all s t x here next left yields same step found

  stops_along : (all : Option Form) (s t : S) (x : Bor (List ℕ)) (here : Form) (left : List (List ℕ)) → AlwaysYields steps (λ x. x.now) s left → all
      ≡ followed here left
      → steps s (Some x) t → reached here x.now (place x.now) ≡ None → all ≡ None
  stops_along all s t x here [] never same step lost = absurd (never x t step)
  stops_along all s t x here (y ∷ ys) yields same step lost =
      let more = yields.1 x t step in
      same ∙ ap (λ e. option_and_then (λ part. followed part ys) (reached here e (place e))) (sym more.0) ∙ ap (option_and_then (λ part. followed part ys)) lost

  pub stops : (all : Option Form) (s t : S) (x : Bor (List ℕ)) (here : Form) → LeadsOn all s here
      → steps s (Some x) t → reached here x.now (place x.now) ≡ None → all ≡ None
  stops all s t x here (left, yields, same) step lost = stops_along all s t x here left yields same step lost

  arrives_along : (all : Option Form) (s t : S) (here : Form) (left : List (List ℕ)) → AlwaysYields steps (λ x. x.now) s left → all ≡ followed here left
      → steps s None t → all ≡ Some here
  arrives_along all s t here [] yields same step = same
  arrives_along all s t here (y ∷ ys) yields same step = absurd (yields.0 t step)

  pub arrives : (all : Option Form) (s t : S) (here : Form) → LeadsOn all s here → steps s None t → all ≡ Some here
  arrives all s t here (left, yields, same) step = arrives_along all s t here left yields same step
