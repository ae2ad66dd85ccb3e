-- How a script spells a text: the bytes between the two quotes.
use Rattle.std.specs.Prelude.{◌≡◌, ◌≢◌, ℕ, ◌+◌, ◌<◌, ◌≤◌, List, [], ◌∷◌, ◌++◌, length, flat_map}
use Rattle.std.specs.Prelude.{encode_utf8, codes}
use Rattle.std.specs.Char.{IsScalar}
use Rattle.std.specs.List.{AllByRecursion}
use Rattle.std.specs.Str.{IsUtf8}
use Rattle.std.specs.Str.Parse.{AllDigits, digits_value}

-- A byte that stands for itself, or an escape
pub data Token : Type 0 where
  itself : ℕ → Token
  quote : Token
  backslash : Token
  line_feed : Token
  carriage_return : Token
  tab : Token
  null : Token
  -- a character by the hexadecimal digits of its number
  character : List ℕ → Token

abbrev pub spelling : Token → List ℕ
spelling (itself byte) = byte ∷ []
spelling quote = codes "\\\""
spelling backslash = codes "\\\\"
spelling line_feed = codes "\\n"
spelling carriage_return = codes "\\r"
spelling tab = codes "\\t"
spelling null = codes "\\0"
spelling (character digits) = codes "\\u{" ++ (digits ++ codes "}")

abbrev pub decoding : Token → List ℕ
decoding (itself byte) = byte ∷ []
decoding quote = codes "\""
decoding backslash = codes "\\"
decoding line_feed = 10 ∷ []
decoding carriage_return = 13 ∷ []
decoding tab = 9 ∷ []
decoding null = 0 ∷ []
decoding (character digits) = encode_utf8 (digits_value 16 digits)

-- no quote (34) and no backslash (92) stands for itself; an escape has one to six digits, and names
-- a scalar value
abbrev pub IsToken : Token → Type 0
IsToken (itself byte) = (byte ≢ 34) × (byte ≢ 92)
IsToken (character digits) = AllDigits 16 digits × (0 < length digits) × (length digits ≤ 6)
    × IsScalar (digits_value 16 digits)
IsToken token = Unit {0}

-- inner is the spellings of some tokens one after another, and text is what they stand for
abbrev pub SpellsText : List ℕ → List ℕ → Type 0
SpellsText inner text = (tokens : List Token) × AllByRecursion IsToken tokens
    × (inner ≡ flat_map spelling tokens) × (text ≡ flat_map decoding tokens)

-- the first bytes, used in number, are a spelling of text and the quote that closes it
abbrev pub BeginsWithText : List ℕ → List ℕ → ℕ → Type 0
BeginsWithText bytes text used = (inner rest : List ℕ) × SpellsText inner text
    × (bytes ≡ inner ++ 34 ∷ rest) × (used ≡ length inner + 1)

-- no first bytes are a spelling of a text in UTF-8 and the quote that closes it
abbrev pub BeginsWithNoText : List ℕ → Type 0
BeginsWithNoText bytes = (text : List ℕ) (used : ℕ) → IsUtf8 text → ¬ BeginsWithText bytes text used
