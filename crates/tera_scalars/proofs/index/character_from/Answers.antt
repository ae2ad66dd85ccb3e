use Rattle.std.proofs.Common.{◌≤◌, arith, sym, length}
use Rattle.std.proofs.lemmas.Option.{slice_get_past}
use Rattle.tera_scalars.proofs.TextLemmas.{nth_forwards, nth_backwards, chars_le_bytes}
use Rattle.tera_scalars.specs.inner.Ends.{chars_from}
use Rattle.tera_scalars.proofs.index.character_from.Goals as goal

pub returns-then-n-text : goal.returns-then-n-text
returns-then-n-text c =
    let short = chars_le_bytes c.args.backwards c.args.text.now c.utf8.text in
    let past : length (chars_from c.args.backwards c.args.text.now) ≤ c.args.n = omega (arith, short) in
    sym (slice_get_past _ c.args.n past)

pub returns-then-backwards : goal.returns-then-backwards
returns-then-backwards c = rw c.if-backwards.true (nth_backwards _ _ _ _ c.args.n c.chars.ensures.rest c.utf8.text c.nth_back.ensures.ran)

pub returns-else-backwards : goal.returns-else-backwards
returns-else-backwards c = rw c.if-backwards.false (nth_forwards _ _ _ _ c.args.n c.chars-else-backwards.ensures.rest c.utf8.text c.nth.ensures.ran)
