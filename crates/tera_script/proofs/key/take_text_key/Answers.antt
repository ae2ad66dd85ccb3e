use Rattle.std.proofs.Common.{sym, subst}
use Rattle.tera_values.specs.Key.{FitsInline}
use Rattle.tera_script.proofs.ShortTexts.{short_is}
use Rattle.tera_script.proofs.key.take_text_key.Goals as goal

pub returns-in_err-of_text-clause-free : goal.returns-in_err-of_text-clause-free
returns-in_err-of_text-clause-free c = λ h.
    let found = c.in-Some.ensures.short in
    let no = c.in_err-of_text.ensures.succeeds (subst FitsInline (sym (short_is found.0 _ found.1 h.0 h.1 h.3 h.5)) h.4) in
    cc
