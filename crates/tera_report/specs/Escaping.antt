-- Escaped text: a grammar of tokens, each with its spelling and the byte that it stands for.
use Rattle.std.specs.Prelude.{◌≡◌, ℕ, Bool, false, ◌||◌, ◌==◌, List, [], ◌∷◌, codes, map}
use Rattle.std.specs.Prelude.{Option, Result, ⊤, if◌then◌else◌}
use Rattle.std.specs.List.{flat_map, AllByRecursion}
use Rattle.std.specs.Io.KnownBytes.{Appends}
use Rattle.std.specs.declared.io.Error.{Error}
use Rattle.tera_report.specs.Writer.{Passes, Breaks}

-- a byte that stands for itself, or one of the five entities
pub data Token : Type 0 where
  itself : ℕ → Token
  ampersand : Token
  less_than : Token
  greater_than : Token
  double_quote : Token
  single_quote : Token

abbrev pub spelling : Token → List ℕ
spelling (itself byte) = byte ∷ []
spelling ampersand = codes "&amp;"
spelling less_than = codes "&lt;"
spelling greater_than = codes "&gt;"
spelling double_quote = codes "&quot;"
spelling single_quote = codes "&#39;"

-- the byte that a token stands for: `&`, `<`, `>`, `"` and `'` of the entities
abbrev pub decoding : Token → ℕ
decoding (itself byte) = byte
decoding ampersand = 38
decoding less_than = 60
decoding greater_than = 62
decoding double_quote = 34
decoding single_quote = 39

-- one of the five bytes that only an entity stands for
abbrev pub is_special : ℕ → Bool
is_special byte = byte == 38 || (byte == 60 || (byte == 62 || (byte == 34 || byte == 39)))

-- no special byte stands for itself
abbrev pub IsToken : Token → Type 0
IsToken (itself byte) = is_special byte ≡ false
IsToken ampersand = ⊤
IsToken less_than = ⊤
IsToken greater_than = ⊤
IsToken double_quote = ⊤
IsToken single_quote = ⊤

-- the bytes are the joined spellings of some tokens, which stand for the text
pub record Spells (bytes text : List ℕ) : Type 0 where
  pub tokens : List Token
  pub proper : AllByRecursion IsToken tokens
  pub spelled : flat_map spelling tokens ≡ bytes
  pub decoded : map decoding tokens ≡ text

-- a writer that held old holds old and a spelling of the text, where it tells what it holds
abbrev pub WritesEscaped : Option (List ℕ) → Option (List ℕ) → List ℕ → Type 0
WritesEscaped old new text = (bytes : List ℕ) × Spells bytes text × Appends old new bytes

-- a writer took a spelling of the text by its writes
abbrev pub PassesEscaped : {W : Type 0} → (W → List ℕ → Result ℕ Error → W → Type 0)
    → W → W → List ℕ → Type 0
PassesEscaped wrote old new text = (bytes : List ℕ) × Spells bytes text × Passes wrote old bytes new

-- a writer was to be given a spelling of the text: its writes took a beginning of it, and one of
-- them answered an error or took no byte of some
abbrev pub BreaksEscaped : {W : Type 0} → (W → List ℕ → Result ℕ Error → W → Type 0)
    → W → W → List ℕ → Type 0
BreaksEscaped wrote old new text = (bytes : List ℕ) × Spells bytes text × Breaks wrote old bytes new

-- the token that stands for a byte
abbrev pub token_of : ℕ → Token
token_of byte =
    if byte == 38 then ampersand
    else (if byte == 60 then less_than
    else (if byte == 62 then greater_than
    else (if byte == 34 then double_quote
    else (if byte == 39 then single_quote
    else itself byte))))

-- the spelling of the tokens that stand for the bytes of a text
abbrev pub escaped : List ℕ → List ℕ
escaped text = flat_map (λ byte. spelling (token_of byte)) text
