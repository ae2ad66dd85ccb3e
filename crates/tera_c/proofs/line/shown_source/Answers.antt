-- A text shows itself, and what is none shows nothing.
use Rattle.std.proofs.Common.{rules, ◌≡◌}
use Rattle.std.proofs.{lemmas.Str.IsUtf8-from_is_utf8, lemmas.Str.is_utf8-from_IsUtf8, lemmas.Bool.false_from_ne_true}
use Rattle.std.specs.Str.{IsUtf8, is_utf8}
use Rattle.tera_c.proofs.line.shown_source.Goals as goal

pub returns-in-Ok : goal.returns-in-Ok
returns-in-Ok c =
    let same : c.in-Ok.text.now ≡ c.args.line.now = search rules in
    let utf8 : IsUtf8 c.args.line.now = search rules in
    rw (is_utf8-from_IsUtf8 c.args.line.now utf8) same

pub returns-in-Err : goal.returns-in-Err
returns-in-Err c =
    let other : IsUtf8 c.args.line.now → ⊥ = search rules in
    rw (false_from_ne_true (is_utf8 c.args.line.now) (λ e. other (IsUtf8-from_is_utf8 c.args.line.now e)))
