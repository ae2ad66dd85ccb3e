-- Parts of what stands for a quoted text, and for a list of texts.
use Rattle.std.specs.Prelude.{◌≡◌, ◌<◌, ◌≤◌, ◌++◌, ◌||◌, ◌==◌, ℕ, Bool, true, false, List}
use Rattle.std.specs.Prelude.{length, slice_index, nat_lt}
use Rattle.std.specs.Char.{encode_utf8}
use Rattle.tera_report.specs.Quoted.{escapes, Escapes}

-- the byte may stand for something else between the quotes: a control byte, a quote, a backslash,
-- or one past ASCII
abbrev pub is_marked : ℕ → Bool
is_marked byte = nat_lt byte 32 || (byte == 34 || (byte == 92 || nat_lt 126 byte))

-- no byte from start on and before end is marked
abbrev pub PlainBetween : List ℕ → ℕ → ℕ → Type 0
PlainBetween bytes start end =
    (k : ℕ) → start ≤ k → k < end → is_marked (slice_index bytes k) ≡ false

-- the bytes stand between the quotes for a marked character
abbrev pub EscapesMarked : ℕ → List ℕ → Type 0
EscapesMarked c bytes = is_marked c ≡ true → Escapes (encode_utf8 c) bytes

-- the text is a run that stands for itself, a marked character, and the rest
pub record Cuts (text run : List ℕ) (c : ℕ) (rest : List ℕ) : Type 0 where
  pub marked : is_marked c ≡ true
  pub plain : escapes run ≡ run
  pub whole : text ≡ run ++ (encode_utf8 c ++ rest)

-- after is what is left of the text past a run that stands for itself: nothing, or it begins with a
-- marked byte
pub record SkipsPlain (text after : List ℕ) : Type 0 where
  pub run : List ℕ
  pub parts : text ≡ run ++ after
  pub plain : escapes run ≡ run
  pub stops : 0 < length after → is_marked (slice_index after 0) ≡ true
