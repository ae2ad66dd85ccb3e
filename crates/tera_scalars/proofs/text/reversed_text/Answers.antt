use Rattle.std.proofs.Common.{◌≡◌, ◌∙◌, [], List, ℕ, ap, reverse, rules, sym, true}
use Rattle.std.proofs.lemmas.List.{nil_from_length, take_all}
use Rattle.std.proofs.lemmas.Str.{chars-nil}
use Rattle.std.specs.Str.{chars, encode_utf8_all}
use Rattle.tera_scalars.proofs.TextLemmas.{chars_le_bytes}
use Rattle.tera_scalars.proofs.text.reversed_text.Goals as goal

pub returns-then-is_empty-clause-ok : goal.returns-then-is_empty-clause-ok
returns-then-is_empty-clause-ok c =
    let empty : c.args.text.now ≡ [] = nil_from_length _ (search rules) in
    let none : chars c.args.text.now ≡ [] = ap chars empty ∙ chars-nil in
    c.new.ensures.bytes ∙ sym (ap (λ (cs : List ℕ). encode_utf8_all (reverse cs)) none)

pub returns-clause-ok : goal.returns-clause-ok
returns-clause-ok c =
    rw (take_all _ (reverse (chars c.args.text.now)) (chars_le_bytes true c.args.text.now c.utf8.text)) at c.last_turned.ensures
