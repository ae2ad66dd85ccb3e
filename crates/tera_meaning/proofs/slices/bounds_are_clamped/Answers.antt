use Rattle.std.specs.Prelude.{◌^◌, ◌-◌, ℕ, pos, negsuc, None, Some, [], ◌∷◌}
use Rattle.tera_meaning.proofs.SliceLaws.{slice_of_is}
use Rattle.tera_meaning.proofs.slices.bounds_are_clamped.Goals as goal

pub returns : goal.returns
returns c = record {
  by_minus_two = slice_of_is {X = ℕ} (0 ∷ 1 ∷ 2 ∷ 3 ∷ 4 ∷ []) None None (negsuc 1) (λ e. cc);
  before_the_first = slice_of_is {X = ℕ} (0 ∷ 1 ∷ 2 ∷ 3 ∷ 4 ∷ []) (Some (negsuc 99)) None (negsuc 0) (λ e. cc);
  greatest = slice_of_is {X = ℕ} (0 ∷ 1 ∷ 2 ∷ 3 ∷ 4 ∷ []) (Some (pos 1)) (Some (pos (2 ^ 127 - 1))) (pos (2 ^ 127 - 1)) (λ e. cc);
  least_to_greatest = slice_of_is {X = ℕ} (0 ∷ 1 ∷ 2 ∷ []) (Some (negsuc (2 ^ 127 - 1))) (Some (pos (2 ^ 127 - 1))) (pos 1) (λ e. cc);
  greatest_to_least = slice_of_is {X = ℕ} (0 ∷ 1 ∷ 2 ∷ []) (Some (pos (2 ^ 127 - 1))) (Some (negsuc (2 ^ 127 - 1))) (negsuc 0) (λ e. cc);
  by_the_least = slice_of_is {X = ℕ} (0 ∷ 1 ∷ 2 ∷ []) None None (negsuc (2 ^ 127 - 1)) (λ e. cc);
  to_the_first = slice_of_is {X = ℕ} (0 ∷ 1 ∷ 2 ∷ 3 ∷ 4 ∷ []) (Some (pos 2)) None (negsuc 0) (λ e. cc);
  behind_the_first = slice_of_is {X = ℕ} (0 ∷ 1 ∷ 2 ∷ 3 ∷ 4 ∷ []) (Some (pos 2)) (Some (pos 0)) (negsuc 0) (λ e. cc);
  inside = slice_of_is {X = ℕ} (0 ∷ 1 ∷ 2 ∷ 3 ∷ 4 ∷ []) (Some (pos 1)) (Some (negsuc 0)) (pos 1) (λ e. cc);
  crossed = slice_of_is {X = ℕ} (0 ∷ 1 ∷ 2 ∷ []) (Some (pos 2)) (Some (pos 1)) (pos 1) (λ e. cc);
  nothing = slice_of_is {X = ℕ} [] (Some (negsuc 0)) None (negsuc 0) (λ e. cc);
}
