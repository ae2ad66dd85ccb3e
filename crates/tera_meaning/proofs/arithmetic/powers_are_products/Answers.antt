use Rattle.std.proofs.Common.{ap, arith, pos, Some, None, if◌then◌else◌}
use Rattle.std.specs.Option.{ok_or}
use Rattle.tera_report.specs.Refusal.{power, not_exact}
use Rattle.tera_meaning.specs.Arithmetic.{power_of, exact, each_ok, as_i128}
use Rattle.tera_meaning.proofs.PowerLaws.{power_of_one, power_outside}
use Rattle.tera_meaning.proofs.arithmetic.powers_are_products.Goals as goal

pub returns-clause-of_one : goal.returns-clause-of_one
returns-clause-of_one c = ap (λ z. each_ok as_i128 (exact power (pos 1) (pos 4294967295) z)) (power_of_one 4294967295)

pub returns-clause-far : goal.returns-clause-far
returns-clause-far c =
    ap (λ b. each_ok as_i128 (ok_or (if b then Some (power_of (pos 2) 4294967295) else None) (not_exact (pos 2) power (pos 4294967295))))
    (power_outside (pos 2) 4294967295 (omega arith) (omega arith))
