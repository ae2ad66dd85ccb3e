-- What stands for a text where it is quoted, and for a list of texts.
use Rattle.std.specs.Prelude.{◌≡◌, ◌<◌, ◌++◌, ◌==◌, ◌&&◌, ◌||◌, ℕ, Bool, true, false, not, nat_lt}
use Rattle.std.specs.Prelude.{if◌then◌else◌, List, ◌∷◌, [], length, Option, IfSome, ⊤}
use Rattle.std.specs.Char.{is_ascii, encode_utf8, IsScalar}
use Rattle.std.specs.Char.Escape.{escape_unicode}
use Rattle.std.specs.Fmt.{debug_escape, comma_space}
use Rattle.std.specs.List.{flat_map, list_all, AllByRecursion}

-- the bytes are the text, where it is known; else they are some bytes
abbrev pub IsText : Option (List ℕ) → List ℕ → Type 0
IsText text bytes = IfSome text (λ known. bytes ≡ known)

-- the text is ASCII
abbrev pub is_ascii_text : List ℕ → Bool
is_ascii_text text = list_all is_ascii text

-- what stands between the quotes where each byte past ASCII stands for itself; of an ASCII text
-- nothing else does
abbrev pub escapes : List ℕ → List ℕ
escapes text = flat_map (debug_escape 34) text

-- the same between quotes
abbrev pub quoted : List ℕ → List ℕ
quoted text = 34 ∷ (escapes text ++ 34 ∷ [])

-- a part of a text that is quoted: a byte, or a character past ASCII
pub data QuotedPart : Type 0 where
  by_rule : (byte : ℕ) → QuotedPart
  by_code : (code : ℕ) → QuotedPart

abbrev pub IsQuotedPart : QuotedPart → Type 0
IsQuotedPart (by_rule byte) = ⊤
IsQuotedPart (by_code code) = (127 < code) × IsScalar code

abbrev pub part_bytes : QuotedPart → List ℕ
part_bytes (by_rule byte) = byte ∷ []
part_bytes (by_code code) = encode_utf8 code

-- what stands for a part: for a byte its escape, which past ASCII is the byte itself, and for a
-- character `\u{..}` with its code
abbrev pub part_shown : QuotedPart → List ℕ
part_shown (by_rule byte) = debug_escape 34 byte
part_shown (by_code code) = escape_unicode code

-- the bytes stand for the text between quotes. Of each character past ASCII the writer chose
-- whether it stands for itself or is told by its code
pub record Escapes (text shown : List ℕ) : Type 0 where
  pub parts : List QuotedPart
  pub proper : AllByRecursion IsQuotedPart parts
  pub joined : flat_map part_bytes parts ≡ text
  pub escaped : flat_map part_shown parts ≡ shown

-- the bytes stand for the text where it is quoted
abbrev pub Quotes : List ℕ → List ℕ → Type 0
Quotes text bytes = (shown : List ℕ) × Escapes text shown × (bytes ≡ 34 ∷ (shown ++ 34 ∷ []))

-- a control byte: one below the space, or 127
abbrev pub is_control : ℕ → Bool
is_control byte = nat_lt byte 32 || byte == 127

-- the last of the bytes is a quote, each other quote stands behind a backslash that is not itself
-- behind one, and none is a control byte. Escaped: such a backslash stands before the bytes
abbrev pub closes : (escaped : Bool) → List ℕ → Bool
closes escaped [] = false
closes true (byte ∷ bytes) = not (is_control byte) && closes false bytes
closes false (byte ∷ bytes) =
    not (is_control byte)
    && (if byte == 34 then length bytes == 0 else closes (byte == 92) bytes)

-- the bytes stand for the texts, quoted and joined by commas, with lead before the first
abbrev pub QuotesItems : List ℕ → List (List ℕ) → List ℕ → Type 0
QuotesItems lead [] bytes = bytes ≡ []
QuotesItems lead (text ∷ texts) bytes =
    (first others : List ℕ) × Quotes text first × QuotesItems comma_space texts others
    × (bytes ≡ lead ++ (first ++ others))

-- the bytes stand for the list of the texts, in brackets
abbrev pub QuotesList : List (List ℕ) → List ℕ → Type 0
QuotesList texts bytes =
    (items : List ℕ) × QuotesItems [] texts items × (bytes ≡ 91 ∷ (items ++ 93 ∷ []))
