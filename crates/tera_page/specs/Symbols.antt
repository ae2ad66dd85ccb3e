-- Which bytes spell the words and signs of an expression.
use Rattle.std.specs.Prelude.{◌≡◌, ⊤, ◌||◌, ◌==◌, ◌&&◌, ◌<◌, not, ℕ, Bool, true, false, IsTrue}
use Rattle.std.specs.Prelude.{List, [], ◌∷◌, ◌++◌, length, codes}
use Rattle.std.specs.List.{list_all}
use Rattle.tera_page.specs.Words.{AreBlanks, is_name_byte}

-- signs, and the words that stand for one
pub data Sign : Type 0 where
  opens : Sign
  closes : Sign
  equal : Sign
  unequal : Sign
  less : Sign
  at_most : Sign
  more : Sign
  at_least : Sign
  plus : Sign
  minus : Sign
  times : Sign
  floor : Sign
  remainder : Sign
  power : Sign
  bar : Sign
  comma : Sign
  gives : Sign
  and : Sign
  or : Sign
  not_ : Sign
  in_ : Sign
  is : Sign
  true_ : Sign
  false_ : Sign
  none : Sign

abbrev pub spelled : Sign → List ℕ
spelled opens = codes "("
spelled closes = codes ")"
spelled equal = codes "=="
spelled unequal = codes "!="
spelled less = codes "<"
spelled at_most = codes "<="
spelled more = codes ">"
spelled at_least = codes ">="
spelled plus = codes "+"
spelled minus = codes "-"
spelled times = codes "*"
spelled floor = codes "//"
spelled remainder = codes "%"
spelled power = codes "**"
spelled bar = codes "|"
spelled comma = codes ","
spelled gives = codes "="
spelled and = codes "and"
spelled or = codes "or"
spelled not_ = codes "not"
spelled in_ = codes "in"
spelled is = codes "is"
spelled true_ = codes "true"
spelled false_ = codes "false"
spelled none = codes "none"

-- a word of letters, digits, `_` and `.`; a text between quotes; a sign
pub data Symbol : Type 0 where
  word : List ℕ → Symbol
  quoted : List ℕ → Symbol
  sign : Sign → Symbol

abbrev pub is_word_byte : ℕ → Bool
is_word_byte b = is_name_byte b || b == 46

abbrev pub begins_word : List ℕ → Bool
begins_word [] = false
begins_word (b ∷ bytes) = is_word_byte b

-- the text is a word, which ends there, and then the rest
abbrev pub IsWord : List ℕ → List ℕ → List ℕ → Type 0
IsWord w text rest =
    (0 < length w) × IsTrue (list_all is_word_byte w) × (begins_word rest ≡ false)
    × (text ≡ w ++ rest)

-- a byte that may stand between such quotes: no quote, and no backslash
abbrev pub is_plain : ℕ → ℕ → Bool
is_plain quote b = not (b == quote) && not (b == 92)

-- the text is a text between two quotes, double or single, and then the rest
abbrev pub IsQuoted : List ℕ → List ℕ → List ℕ → Type 0
IsQuoted t text rest =
    (quote : ℕ) × IsTrue (quote == 34 || quote == 39) × IsTrue (list_all (is_plain quote) t)
    × (text ≡ quote ∷ (t ++ quote ∷ rest))

-- the text is a symbol, and then the rest
abbrev pub IsSymbol : Symbol → List ℕ → List ℕ → Type 0
IsSymbol (word w) text rest = IsWord w text rest
IsSymbol (quoted t) text rest = IsQuoted t text rest
IsSymbol (sign s) text rest =
    (text ≡ spelled s ++ rest) × (begins_word (spelled s) ≡ true → begins_word rest ≡ false)

-- the text is these symbols, with blanks before each, and then a rest that is such
abbrev pub SymbolsAnd : (List ℕ → Type 0) → List Symbol → List ℕ → Type 0
SymbolsAnd Rest [] text = Rest text
SymbolsAnd Rest (s ∷ ss) text =
    (before inner rest : List ℕ) × AreBlanks before × (text ≡ before ++ inner)
    × IsSymbol s inner rest × SymbolsAnd Rest ss rest

-- the text is these symbols, with blanks before, between and after them
abbrev pub AreSymbols : List Symbol → List ℕ → Type 0
AreSymbols ss text = SymbolsAnd AreBlanks ss text

-- the text begins with these symbols, with blanks before each
abbrev pub BeginWith : List Symbol → List ℕ → Type 0
BeginWith ss text = SymbolsAnd (λ rest. ⊤) ss text

-- the text begins with more than n symbols
abbrev pub HasMore : ℕ → List ℕ → Type 0
HasMore n text = (ss : List Symbol) × (n < length ss) × BeginWith ss text
