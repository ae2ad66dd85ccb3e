use Rattle.std.proofs.Common.{◌≡◌, ◌*ℤ◌, ◌/◌, sym, ◌∙◌, ap, arith, Some, None, to_z-of_z}
use Rattle.tera_meaning.specs.Arithmetic.{small, power_of}
use Rattle.tera_meaning.proofs.PowerLaws.{power_none, even_power, odd_power, large_half, large_square}
use Rattle.tera_scalars.proofs.Checked.{not_small, none_is_small, found_small}
use Rattle.tera_scalars.proofs.operation.+power.Goals as goal

pub returns-then-count-eq0 : goal.returns-then-count-eq0
returns-then-count-eq0 t c =
    sym (ap small (ap (power_of c.args.base) c.if-count-eq0.true ∙ power_none c.args.base))

pub returns-in_err-half : goal.returns-in_err-half
returns-in_err-half t c =
    let none : None ≡ small (power_of c.args.base (c.args.count / 2)) = simp (to_z-of_z c.ranges.base) at c.in_err-half.ensures in
    let large = not_small (power_of c.args.base (c.args.count / 2)) none in
    c.from_residual.ensures ∙ none_is_small (power_of c.args.base c.args.count) (large_half c.args.base c.args.count large)

pub returns-in_err-square : goal.returns-in_err-square
returns-in_err-square t c =
    let (half, fits) = found_small c.in_ok-half.half (power_of c.args.base (c.args.count / 2)) (simp (to_z-of_z c.ranges.base) at c.in_ok-half.ensures) in
    let g : None ≡ small (c.in_ok-half.half *ℤ c.in_ok-half.half) = simp (to_z-of_z fits) at c.in_err-square.ensures in
    let large = not_small (power_of c.args.base (c.args.count / 2) *ℤ power_of c.args.base (c.args.count / 2)) (g ∙ ap (λ x. small (x *ℤ x)) half) in
    c.from_residual-in_err-square.ensures
    ∙ none_is_small (power_of c.args.base c.args.count) (large_square c.args.base c.args.count large)

pub returns-then-count-eq0-2 : goal.returns-then-count-eq0-2
returns-then-count-eq0-2 t c =
    let (half, fits) = found_small c.in_ok-half.half (power_of c.args.base (c.args.count / 2)) (simp (to_z-of_z c.ranges.base) at c.in_ok-half.ensures) in
    let g : Some c.in_ok-square.square ≡ small (c.in_ok-half.half *ℤ c.in_ok-half.half) = simp (to_z-of_z fits) at c.in_ok-square.ensures in
    ap Some (to_z-of_z (found_small c.in_ok-square.square (c.in_ok-half.half *ℤ c.in_ok-half.half) g).1) ∙ g ∙ ap (λ x. small (x *ℤ x)) half
    ∙ sym (ap small (even_power c.args.base c.args.count c.if-count-eq0-2.true))

pub returns-else-count-eq0-2 : goal.returns-else-count-eq0-2
returns-else-count-eq0-2 t c =
    let (half, fits) = found_small c.in_ok-half.half (power_of c.args.base (c.args.count / 2)) (simp (to_z-of_z c.ranges.base) at c.in_ok-half.ensures) in
    let g : Some c.in_ok-square.square ≡ small (c.in_ok-half.half *ℤ c.in_ok-half.half) = simp (to_z-of_z fits) at c.in_ok-square.ensures in
    let (square, square_fits) = found_small c.in_ok-square.square (c.in_ok-half.half *ℤ c.in_ok-half.half) g in
    let e : c.product-else-count-eq0-2.result ≡ small (c.in_ok-square.square *ℤ c.args.base) =
    simp (to_z-of_z square_fits, to_z-of_z c.ranges.base) at c.product-else-count-eq0-2.ensures in
    e ∙ ap (λ x. small (x *ℤ c.args.base)) (square ∙ ap (λ x. x *ℤ x) half)
    ∙ sym (ap small (odd_power c.args.base c.args.count (omega (arith, c.if-count-eq0-2.false))))
