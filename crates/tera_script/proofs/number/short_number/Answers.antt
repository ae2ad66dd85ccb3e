use Rattle.std.proofs.Common.{◌∙◌, sym, ap, None}
use Rattle.tera_script.specs.Readers.{front, is_word_byte, integer_of}
use Rattle.tera_script.proofs.Integers.{short_number, no_minus}
use Rattle.tera_script.proofs.number.short_number.Goals as goal

pub returns-clause-number : goal.returns-clause-number
returns-clause-number c = short_number c.args.minus (front is_word_byte c.args.bytes.now) c.in_ok-magnitude.magnitude c.in_ok-magnitude.ensures.digits
    ∙ ap (λ m. integer_of c.args.minus m None) (sym c.from.ensures) ∙ sym c.in_ok-number.ensures

pub returns-clause-unsigned : goal.returns-clause-unsigned
returns-clause-unsigned c = no_minus (front is_word_byte c.args.bytes.now) c.in_ok-magnitude.magnitude c.in_ok-magnitude.ensures.digits
