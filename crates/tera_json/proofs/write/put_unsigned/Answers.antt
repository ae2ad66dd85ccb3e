use Rattle.std.proofs.Common.{sym, subst, pos}
use Rattle.json.specs.Print.{IsNumber}
use Rattle.tera_json.proofs.Decimals.{wide_number}
use Rattle.tera_json.proofs.write.put_unsigned.Goals as goal

pub number-requires : goal.number-requires
number-requires c = subst IsNumber (sym c.format.ensures.text) (wide_number (pos c.args.number) c.ranges.number.fits)
