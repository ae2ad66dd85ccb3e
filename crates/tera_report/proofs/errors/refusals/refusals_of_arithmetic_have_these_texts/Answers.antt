use Rattle.std.proofs.Common.{refl}
use Rattle.std.specs.Fmt.{digits}
use Rattle.tera_report.proofs.errors.refusals.refusals_of_arithmetic_have_these_texts.Goals as goal

pub returns : goal.returns
unfolding digits
returns c = record {
  kind = refl;
  operand = refl;
  sum = refl;
  difference = refl;
  product = refl;
  remainder = refl;
  quotient = refl;
  power = refl;
  zero = refl;
  exponent = refl;
  negation = refl;
  negated = refl;
}
