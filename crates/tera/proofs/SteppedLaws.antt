-- Steps that may refuse: a run that goes through refuses none of them, and keeps what each of them keeps.
use Rattle.std.specs.Prelude.{◌≡◌, ◌<◌, ◌≤◌, ◌+◌, drop, take, length, true, false, Bool, cond}
use Rattle.std.specs.Prelude.{Some, IsTrue, List, [], ◌∷◌, ◌++◌, ℕ, Result, Ok, Err, refl, is_some}
use Rattle.std.specs.FinMap.{get, insert, get-insert}
use Rattle.std.specs.Cmp.Lexicographic.{nat_list_cmp_total, slice_cmp}
use Rattle.std.specs.Ordering.{eq_by_cmp, nat_cmp}
use Rattle.std.proofs.Common.{ap, sym, subst, ◌∙◌, get_or, rules}
use Rattle.std.proofs.lemmas.Grind.{take_at_read}
use Rattle.std.proofs.lemmas.List.{drop_more, take-append-drop, take_all}
use Rattle.tera_meaning.proofs.RefusalLaws.{given_by_both, refuses_on}
use Rattle.tera_meaning.specs.Arithmetic.{and_then}
use Rattle.tera_meaning.specs.Form.{Form}
use Rattle.tera_meaning.specs.State.{State}
use Rattle.tera_report.specs.Errors.{Refuses}
use Rattle.tera_report.specs.Refusal.{Refusal}
use Rattle.tera_report.specs.declared.errors.Error.{Error}
use Rattle.tera.specs.Stepped.{stepped}

and_then_both : {X Y Z : Type 0} (r : Result X Refusal) (f : X → Result Y Refusal) (g : Y → Result Z Refusal)
    → and_then (and_then r f) g ≡ and_then r (λ x. and_then (f x) g)
and_then_both x0 f g = search rules

then_alike : {X Y : Type 0} (r : Result X Refusal) (f g : X → Result Y Refusal) → ((x : X) → f x ≡ g x) → and_then r f ≡ and_then r g
then_alike (Ok x) f g same = same x
then_alike (Err refusal) f g same = refl

module _ {S X : Type 0} (step : S → X → Result S Refusal) where
  -- the steps of two lists, one after the other
  pub stepped_joined : (state : S) (xs ys : List X) → stepped step state (xs ++ ys) ≡ and_then (stepped step state xs) (λ mid. stepped step mid ys)
  stepped_joined state [] ys = refl
  stepped_joined state (x ∷ xs) ys =
      then_alike (step state x) (λ next. stepped step next (xs ++ ys)) (λ next. and_then (stepped step next xs) (λ mid. stepped step mid ys))
      (λ next. stepped_joined next xs ys)
      ∙ sym (and_then_both (step state x) (λ next. stepped step next xs) (λ mid. stepped step mid ys))

  -- a run that goes through does each step
  pub stepped_through : (state : S) (xs : List X) (x : X) (ys : List X) (last : S) → stepped step state (xs ++ x ∷ ys) ≡ Ok last
      → (mid next : S) × (stepped step state xs ≡ Ok mid) × (step mid x ≡ Ok next) × (stepped step next ys ≡ Ok last)
  stepped_through state xs x ys last is =
      let (mid, before, behind) = given_by_both (stepped step state xs) (λ mid. stepped step mid (x ∷ ys)) last
      (sym (stepped_joined state xs (x ∷ ys)) ∙ is) in
      let (next, one, rest) = given_by_both (step mid x) (λ next. stepped step next ys) last behind in
      (mid, next, before, one, rest)

  -- a step that is refused ends the run
  pub stepped_refused : (state mid : S) (xs : List X) (x : X) (ys : List X) (refusal : Refusal) → stepped step state xs ≡ Ok mid
      → step mid x ≡ Err refusal → stepped step state (xs ++ x ∷ ys) ≡ Err refusal
  stepped_refused state mid xs x ys refusal before refused =
      stepped_joined state xs (x ∷ ys) ∙ ap (λ r. and_then r (λ m. stepped step m (x ∷ ys))) before
      ∙ ap (λ r. and_then r (λ next. stepped step next ys)) refused

  -- and what it is refused with, the run is
  pub stepped_refuses : (state mid : S) (xs : List X) (x : X) (ys : List X) (e : Error) → stepped step state xs ≡ Ok mid
      → Refuses (step mid x) e → Refuses (stepped step state (xs ++ x ∷ ys)) e
  stepped_refuses state mid xs x ys e before refused =
      subst (λ r. Refuses r e) (sym (stepped_joined state xs (x ∷ ys) ∙ ap (λ r. and_then r (λ m. stepped step m (x ∷ ys))) before))
      (refuses_on (step mid x) (λ next. stepped step next ys) e refused)

  -- in a loop over the list: one step more, the one that is refused, and no step left
  pub stepped_more : (state mid next : S) (xs : List X) (i : ℕ) (x : X) → i < length xs → x ≡ get_or xs i x → stepped step state (take i xs) ≡ Ok mid
      → step mid x ≡ Ok next → stepped step state (take (i + 1) xs) ≡ Ok next
  stepped_more state mid next xs i x below is so_far one =
      let more : take (i + 1) xs ≡ take i xs ++ x ∷ [] =
      (take_at_read xs i x below).1 ∙ ap (λ last. take i xs ++ last ∷ []) (sym is) in
      ap (stepped step state) more ∙ stepped_joined state (take i xs) (x ∷ []) ∙ ap (λ r. and_then r (λ m. stepped step m (x ∷ []))) so_far
      ∙ ap (λ r. and_then r (λ n. stepped step n [])) one

  pub stepped_stops : (state mid : S) (xs : List X) (i : ℕ) (x : X) (e : Error) → i < length xs → x ≡ get_or xs i x
      → stepped step state (take i xs) ≡ Ok mid → Refuses (step mid x) e → Refuses (stepped step state xs) e
  stepped_stops state mid xs i x e below is so_far refused =
      let whole : take i xs ++ x ∷ drop (i + 1) xs ≡ xs =
      ap (λ rest. take i xs ++ rest) (ap (λ first. first ∷ drop (i + 1) xs) is ∙ sym (drop_more xs i x below)) ∙ take-append-drop i xs in
      subst (λ all. Refuses (stepped step state all) e) whole (stepped_refuses state mid (take i xs) x (drop (i + 1) xs) e so_far refused)

  pub stepped_all : (state last : S) (xs : List X) (i : ℕ) → length xs ≤ i → stepped step state (take i xs) ≡ Ok last → stepped step state xs ≡ Ok last
  stepped_all state last xs i past so_far = ap (stepped step state) (sym (take_all i xs past)) ∙ so_far

  -- what holds before and is kept by each step holds in the end
  pub stepped_keeps : (holds : S → Bool) → ((s : S) (x : X) (t : S) → step s x ≡ Ok t → IsTrue (holds s) → IsTrue (holds t))
      → (state : S) (xs : List X) (last : S) → stepped step state xs ≡ Ok last → IsTrue (holds state) → IsTrue (holds last)
  stepped_keeps holds keeps state [] last is held = subst (λ r. IsTrue (if_ok r)) is held
    where
      if_ok : Result S Refusal → Bool
      if_ok (Ok s) = holds s
      if_ok (Err refusal) = true
  stepped_keeps holds keeps state (x ∷ xs) last is held =
      let (next, one, rest) = given_by_both (step state x) (λ s. stepped step s xs) last is in
      stepped_keeps holds keeps next xs last rest (keeps state x next one held)

-- a name that is held is held where a value is kept under a name
pub name_stays : (state : State) (into : List ℕ) (value : Form) (name : List ℕ) → IsTrue (is_some (get state name))
    → IsTrue (is_some (get (insert state into value) name))
name_stays state into value name held =
    subst (λ o. IsTrue (is_some o)) (sym (get-insert nat_list_cmp_total state into value name)) (either (eq_by_cmp (slice_cmp nat_cmp) name into) held)
  where
    either : (b : Bool) → IsTrue (is_some (get state name)) → IsTrue (is_some (cond b (Some value) (get state name)))
    either true held = refl
    either false held = held

-- so names that are held stay held, where each step keeps them
pub names_stay : {X : Type 0} (step : State → X → Result State Refusal)
    → ((s : State) (x : X) (t : State) (name : List ℕ) → step s x ≡ Ok t → IsTrue (is_some (get s name)) → IsTrue (is_some (get t name)))
    → (state : State) (xs : List X) (last : State) (name : List ℕ) → stepped step state xs ≡ Ok last → IsTrue (is_some (get state name))
    → IsTrue (is_some (get last name))
names_stay step keeps state xs last name =
    stepped_keeps step (λ s. is_some (get s name)) (λ s x t. keeps s x t name) state xs last
