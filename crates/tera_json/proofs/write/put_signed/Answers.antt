use Rattle.std.proofs.Common.{sym, subst, ap, ◌∙◌, to_z-of_z}
use Rattle.std.specs.Fmt.{signed_decimal}
use Rattle.json.specs.Print.{IsNumber}
use Rattle.tera_json.proofs.Decimals.{wide_number}
use Rattle.tera_json.proofs.Plain.{fits_wide}
use Rattle.tera_json.proofs.write.put_signed.Goals as goal

pub number-requires : goal.number-requires
number-requires c =
    let text = c.format.ensures.text ∙ ap signed_decimal (to_z-of_z c.ranges.number) in
    subst IsNumber (sym text) (wide_number c.args.number (fits_wide c.args.number c.ranges.number))
