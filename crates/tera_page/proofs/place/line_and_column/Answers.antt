-- The characters that the loop has taken are those of the text.
use Rattle.std.proofs.Common.{◌≡◌, ℕ, ◌+◌, ◌-◌, ◌<◌, ◌≤◌, length, not, List, subst, ap, sym, ◌∙◌, arith}
use Rattle.std.proofs.lemmas.Iterator.{YieldsList-from_chars}
use Rattle.std.proofs.lemmas.Iterator.Consumers.{YieldsList-end, YieldsList-turn}
use Rattle.std.proofs.lemmas.List.{length-drop, map-id}
use Rattle.std.proofs.lemmas.List.Sums.{suffix_len-le-length}
use Rattle.std.proofs.lemmas.Str.{encodes-chars, length-le-encodes}
use Rattle.std.specs.List.{count_by, suffix_len}
use Rattle.std.specs.Str.{IsUtf8, chars}
use Rattle.tera_page.proofs.place.line_and_column.Goals as goal
use Rattle.tera_page.specs.Places.{column_behind, is_line_feed}

-- no more characters stand there than bytes
fewer : (text : List ℕ) → IsUtf8 text → length (chars text) ≤ length text
fewer text utf8 = subst (λ bs. length (chars text) ≤ length bs) (encodes-chars text utf8) (length-le-encodes (chars text))

column_is : (text : List ℕ) → column_behind text ≡ suffix_len (λ c. not (is_line_feed c)) (chars text)
column_is text =
    let n = suffix_len (λ c. not (is_line_feed c)) (chars text) in
    omega (arith, suffix_len-le-length (λ c. not (is_line_feed c)) (chars text), length-drop (length (chars text) - n) (chars text))

-- a column of some of the characters of a text
column_within : (cs text : List ℕ) (column : ℕ) → IsUtf8 text → length cs < length (chars text) → column ≡ suffix_len (λ c. not (is_line_feed c)) cs
    → column < length text
column_within cs text column utf8 some is = omega (arith, some, is, fewer text utf8, suffix_len-le-length (λ c. not (is_line_feed c)) cs)

pub overflow_add-column : goal.overflow_add-column
overflow_add-column c =
    let below : c.loop-character.column < length c.args.before.now =
    column_within c.loop-character.yielded c.args.before.now c.loop-character.column c.utf8.before
    (YieldsList-turn (YieldsList-from_chars c.args.before.now c.utf8.before cc) c.loop-character.yielded _ c.loop-character.yielded_by _ _
    c.in-Some.character c.in-Some.is c.next.ensures.steps).0 c.loop-character.invariant.1 in
    omega (arith, below)

pub returns : goal.returns
returns c =
    let text = c.args.before.now in
    let same : c.loop-character.yielded ≡ chars text =
    sym (map-id c.loop-character.yielded)
    ∙ (YieldsList-end (YieldsList-from_chars text c.utf8.before cc) c.loop-character.yielded _ c.loop-character.yielded_by _ _ c.in-None.is
    c.next.ensures.steps).0 in
    let column : c.loop-character.column ≡ column_behind text =
    c.loop-character.invariant.1 ∙ ap (suffix_len (λ c. not (is_line_feed c))) same ∙ sym (column_is text) in
    record {
      line = c.loop-character.invariant.0 ∙ ap (λ cs. count_by is_line_feed cs + 1) same;
      column = column;
      within = omega (arith, column, column_is text, suffix_len-le-length (λ c. not (is_line_feed c)) (chars text), fewer text c.utf8.before);
    }
