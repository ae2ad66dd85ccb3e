-- What the readers of a text give, byte by byte: what the bytes stand for up to the closing quote,
-- and what stands behind that quote.
use Rattle.std.specs.Prelude.{◌≡◌, ◌≢◌, ℕ, ◌+◌, ◌*◌, ◌⊎◌, cond, ◌&&◌, ◌==◌, nat_lt, List, []}
use Rattle.std.specs.Prelude.{◌∷◌, ◌++◌, Option, Some, None, encode_utf8, length, ◌≤◌}
use lib.Utf8.{scalar}
use Rattle.std.specs.Borrow.{Bor}
use Rattle.std.specs.Char.{digit_value}
use Rattle.std.specs.List.{AllByRecursion}
use Rattle.std.specs.Option.{option_map}
use Rattle.std.specs.Str.{IsUtf8}
use Rattle.tera_values.specs.Key.{FitsInline}
use Rattle.tera_script.specs.Readers.{behind}
use Rattle.tera_script.specs.Text.{Token, quote, backslash, line_feed, carriage_return, tab, null}
use Rattle.tera_script.specs.Text.{decoding}

-- a byte that stands for itself
abbrev pub IsPlain : ℕ → Type 0
IsPlain byte = (byte ≢ 34) × (byte ≢ 92)

-- no quote and no backslash stands in the text, and it has at most 31 bytes
abbrev pub IsShort : List ℕ → Type 0
IsShort t = AllByRecursion IsPlain t × (length t ≤ 31)

-- a short text that stands for itself before a quote: a key holds it in its own place
abbrev pub BeginsWithInline : List ℕ → Type 0
BeginsWithInline bytes = (t : List ℕ) × (rest : List ℕ) × IsUtf8 t × AllByRecursion IsPlain t
    × FitsInline t × (bytes ≡ t ++ 34 ∷ rest)

-- no byte that stands for itself is the first
abbrev pub IsNoRun : List ℕ → Type 0
IsNoRun [] = Unit {0}
IsNoRun (byte ∷ bytes) = (byte ≡ 34) ⊎ (byte ≡ 92)

-- run stands for itself, and no byte of the rest goes on with it
abbrev pub BeginsWithRun : List ℕ → List ℕ → List ℕ → Type 0
BeginsWithRun bytes run rest = AllByRecursion IsPlain run × (bytes ≡ run ++ rest) × IsNoRun rest

-- where a reader stands: before a token, behind a backslash, behind the u of an escape, or behind
-- the brace of one and some digits: the number of these, and how many they are
pub data Place : Type 0 where
  at_token : Place
  at_letter : Place
  at_brace : Place
  at_digit : ℕ → ℕ → Place

-- the escape of one letter behind its backslash
abbrev pub letter_token : ℕ → Option Token
letter_token b =
    cond (b == 34) (Some quote) (cond (b == 92) (Some backslash) (cond (b == 110) (Some line_feed)
    (cond (b == 114) (Some carriage_return) (cond (b == 116) (Some tab)
    (cond (b == 48) (Some null) None)))))

-- what a token stands for, if there is one, and then what was read
abbrev pub behind_token : Option Token → Option (List ℕ × List ℕ) → Option (List ℕ × List ℕ)
behind_token (Some token) read = behind (decoding token) read
behind_token None read = None

-- from a place on. A quote is 34, a backslash 92, the letter u 117, and braces are 123 and 125
unfoldable pub text_from : List ℕ → Place → Option (List ℕ × List ℕ)
text_from [] place = None
text_from (b ∷ bytes) at_token = cond (b == 34) (Some ([], bytes))
    (cond (b == 92) (text_from bytes at_letter) (behind (b ∷ []) (text_from bytes at_token)))
text_from (b ∷ bytes) at_letter = cond (b == 117) (text_from bytes at_brace)
    (behind_token (letter_token b) (text_from bytes at_token))
text_from (b ∷ bytes) at_brace = cond (b == 123) (text_from bytes (at_digit 0 0)) None
text_from (b ∷ bytes) (at_digit n count) =
    cond ((b == 125) && nat_lt 0 count)
    (cond (scalar n) (behind (encode_utf8 n) (text_from bytes at_token)) None)
    (cond (nat_lt (digit_value b) 16 && nat_lt count 6)
    (text_from bytes (at_digit (n * 16 + digit_value b) (count + 1))) None)

-- what an escape stands for, from a place behind its backslash on, and the bytes behind the escape
unfoldable pub escape_at : List ℕ → Place → Option (List ℕ × List ℕ)
escape_at [] place = None
escape_at (b ∷ bytes) at_token = None
escape_at (b ∷ bytes) at_letter = cond (b == 117) (escape_at bytes at_brace)
    (option_map (λ token. (decoding token, bytes)) (letter_token b))
escape_at (b ∷ bytes) at_brace = cond (b == 123) (escape_at bytes (at_digit 0 0)) None
escape_at (b ∷ bytes) (at_digit n count) =
    cond ((b == 125) && nat_lt 0 count) (cond (scalar n) (Some (encode_utf8 n, bytes)) None)
    (cond (nat_lt (digit_value b) 16 && nat_lt count 6)
    (escape_at bytes (at_digit (n * 16 + digit_value b) (count + 1))) None)

-- a character and a slice, by what they hold
abbrev pub char_rest : ℕ × Bor (List ℕ) → List ℕ × List ℕ
char_rest pair = (encode_utf8 pair.0, pair.1.now)
