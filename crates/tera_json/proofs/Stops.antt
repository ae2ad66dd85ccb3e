-- What a walk says where it stops, seen from the whole.
use Rattle.std.specs.Prelude.{◌≡◌, ℕ, Bool, true, false, cond, List, [], ◌∷◌, ◌++◌, refl}
use Rattle.tera_json.specs.Misfits.{Misfit, here, under, too_deep}
use Rattle.tera_json.specs.inner.Stopped.{IsDue}
use Rattle.tera_json.specs.declared.misfit.Stop.{Stop}
use Rattle.tera_json.specs.declared.misfit.Stop.TheVariants as stop

-- what is due first of some is due first of these and others
pub due_of_more : (found others : List Misfit) (s : Stop) → IsDue found s → IsDue (found ++ others) s
due_of_more found others stop.Memory h = tt
due_of_more [] others (stop.Misfit m) h = absurd h
due_of_more (f ∷ found) others (stop.Misfit m) h = h

-- ---- where nothing does not fit

pub nil_front : {A : Type 0} (xs ys : List A) → (xs ++ ys) ≡ [] → (xs ≡ []) × (ys ≡ [])
nil_front [] ys e = (refl, e)
nil_front (x ∷ xs) ys e = cc

pub nil_under : (step : List ℕ) (found : List Misfit) → under step found ≡ [] → found ≡ []
nil_under step [] e = refl
nil_under step (m ∷ ms) e = cc

pub within_levels : (b : Bool) (inside : List Misfit) → cond b (here too_deep ∷ []) inside ≡ [] → (b ≡ false) × (inside ≡ [])
within_levels true inside e = cc
within_levels false inside e = (refl, e)
