use Rattle.std.proofs.Common.{ap, sym, ◌∙◌}
use Rattle.std.specs.String.{string_bytes}
use Rattle.tera_meaning.specs.Read.{marked_safe}
use Rattle.tera_values.specs.View.{marked}
use Rattle.tera_script.proofs.Literals.{quoted_none, quoted_some}
use Rattle.tera_script.proofs.literal.take_quoted.Goals as goal

pub returns-in_default : goal.returns-in_default
returns-in_default c = quoted_none c.args.safe c.args.bytes.now (rw (c.in_default.is) at c.in_ok-taken.ensures)

pub returns-then-safe : goal.returns-then-safe
returns-then-safe c =
    let t = string_bytes c.in-Some.taken.text in
    quoted_some c.args.safe c.args.bytes.now t c.split_at.result.1.now c.in-Some.taken.used c.mark_safe.result (rw (c.in-Some.is) at c.in_ok-taken.ensures)
    (c.mark_safe.ensures ∙ ap marked_safe c.from-value.ensures ∙ ap (marked t) (sym c.if-safe.true)) c.split_at.ensures.back

pub returns-else-safe : goal.returns-else-safe
returns-else-safe c =
    let t = string_bytes c.in-Some.taken.text in
    quoted_some c.args.safe c.args.bytes.now t c.split_at.result.1.now c.in-Some.taken.used c.from-value.result (rw (c.in-Some.is) at c.in_ok-taken.ensures)
    (c.from-value.ensures ∙ ap (marked t) (sym c.if-safe.false)) c.split_at.ensures.back
