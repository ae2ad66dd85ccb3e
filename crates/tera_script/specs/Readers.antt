-- What the readers give, as functions on lists: a value and the bytes behind it, or nothing.
use Rattle.std.specs.Prelude.{◌≡◌, ◌≢◌, ◌≤◌, ◌+◌, ◌*◌, IsTrue, ℕ, ◌^◌, ℤ, pos, negsuc, Bool, true}
use Rattle.std.specs.Prelude.{false, cond, ◌&&◌, ◌||◌, ◌==◌, ◌++◌, codes, nat_lt, List, [], ◌∷◌}
use Rattle.std.specs.Prelude.{length, Option, Some, None, option_and_then, Vec}
use Rattle.std.specs.Borrow.{Bor}
use Rattle.std.specs.Option.{option_map}
use Rattle.std.specs.Char.{digit_value, is_ascii_digit}
use Rattle.std.specs.List.{list_all}
use Rattle.std.specs.Str.{bytes_eq, IsUtf8}
use Rattle.tera_meaning.specs.Integer.{IntegerKind, u64, i64, u128, i128, Integer}
use Rattle.tera_meaning.specs.Form.{Form, MarkedText}
use Rattle.tera_meaning.specs.Kind.{integer_kind_name}
use Rattle.tera_meaning.specs.KeyMeaning.{KeyForm, truth_key, number_key}
use Rattle.tera_meaning.specs.Pairs.{key_form_order, put}
use Rattle.tera_meaning.specs.Tree.{Items, Members, undefined, none, truth, number}
use Rattle.tera_meaning.specs.Tree.{text as text_value, bytes as bytes_value, array, object}
use Rattle.tera_meaning.specs.Tree.{items_list, members_list, depth}
use Rattle.tera_script.specs.Number.{signed}
use Rattle.tera_script.specs.declared.number.Integer.{Integer as Held}
use Rattle.tera_script.specs.declared.number.Integer.TheVariants as held
use Rattle.tera_script.specs.declared.number.Suffix.{Suffix}
use Rattle.tera_script.specs.declared.number.Suffix.TheVariants.{U64, I64, U128, I128}
use Rattle.tera_script.specs.declared.word.Class.{Class}
use Rattle.tera_script.specs.declared.word.Class.TheVariants.{Blank, Name, Word}
use Rattle.tera_script.specs.Word.{is_blank, is_name_start, is_name_byte}
use Rattle.tera_script.specs.declared.bound.Bounds.{Bounds}
use Rattle.tera_script.specs.Literal.{SpellsTree, SpellsKey, tree_value}
use Rattle.tera_script.specs.Text.{SpellsText}
use Rattle.tera_values.specs.Key.{key_form, key_value}
use Rattle.tera_values.specs.View.{marked}
use Rattle.tera_values.specs.declared.key.Key.{Key}

infixl 10 ◌>>=◌
abbrev pub ◌>>=◌ : {A B : Type 0} → Option A → (A → Option B) → Option B
o >>= f = option_and_then f o

-- the bytes at the front that pass, and those behind them
abbrev pub front : (ℕ → Bool) → List ℕ → List ℕ
front p [] = []
front p (b ∷ bytes) = cond (p b) (b ∷ front p bytes) []

abbrev pub past : (ℕ → Bool) → List ℕ → List ℕ
past p [] = []
past p (b ∷ bytes) = cond (p b) (past p bytes) (b ∷ bytes)

-- the first of the bytes, if there is one, does not pass
abbrev pub Stops : (ℕ → Bool) → List ℕ → Type 0
Stops p [] = Unit {0}
Stops p (b ∷ bytes) = p b ≡ false

-- a digit stands before the rest
abbrev pub BeginsWithDigit : List ℕ → ℕ → List ℕ → Type 0
BeginsWithDigit bytes digit rest = IsTrue (is_ascii_digit digit) × (bytes ≡ digit ∷ rest)

-- two slices by what they hold
abbrev pub named_rest : Bor (List ℕ) × Bor (List ℕ) → List ℕ × List ℕ
named_rest pair = (pair.0.now, pair.1.now)

-- behind a gap
unfoldable pub gap_at : List ℕ → Option (List ℕ)
gap_at [] = None
gap_at (b ∷ bytes) = cond (is_blank b) (Some (past is_blank bytes)) None

-- a name
unfoldable pub name_at : List ℕ → Option (List ℕ × List ℕ)
name_at [] = None
name_at (b ∷ bytes) = cond (is_name_start b)
    (Some (b ∷ front is_name_byte bytes, past is_name_byte bytes)) None

-- the name behind a gap
unfoldable pub operand_at : List ℕ → Option (List ℕ × List ℕ)
operand_at bytes = gap_at bytes >>= name_at

-- the number of some digits and of those at the front, if 128 bits hold it, and the bytes behind
-- them
abbrev pub digits_from : ℕ → List ℕ → Option (ℕ × List ℕ)
digits_from n [] = Some (n, [])
digits_from n (b ∷ bytes) = cond (is_ascii_digit b)
    (cond (nat_lt (n * 10 + digit_value b) (2 ^ 128)) (digits_from (n * 10 + digit_value b) bytes)
    None)
    (Some (n, b ∷ bytes))

-- the number of the digits at the front, if there are any
unfoldable pub digits_at : List ℕ → Option (ℕ × List ℕ)
digits_at bytes = do
  digits ← digits_from 0 bytes
  cond (length digits.1 == length bytes) None (Some digits)

-- the kind, if this is its word, and else what is given
abbrev pub if_named : List ℕ → IntegerKind → Option (Option IntegerKind)
    → Option (Option IntegerKind)
if_named word kind otherwise = cond (bytes_eq word (integer_kind_name kind)) (Some (Some kind))
    otherwise

-- the kind that a word names, or none where there is no word. Any other word is no suffix
unfoldable pub suffix_in : List ℕ → Option (Option IntegerKind)
suffix_in [] = Some None
suffix_in (b ∷ bytes) = if_named (b ∷ bytes) u64
    (if_named (b ∷ bytes) i64 (if_named (b ∷ bytes) u128 (if_named (b ∷ bytes) i128 None)))

-- `IsOfKind` and `IsSignFor` as tests
abbrev pub is_of_kind : IntegerKind → ℤ → Bool
is_of_kind u64 (pos n) = nat_lt n (2 ^ 64)
is_of_kind u64 (negsuc n) = false
is_of_kind i64 (pos n) = nat_lt n (2 ^ 63)
is_of_kind i64 (negsuc n) = nat_lt n (2 ^ 63)
is_of_kind u128 (pos n) = nat_lt n (2 ^ 128)
is_of_kind u128 (negsuc n) = false
is_of_kind i128 (pos n) = nat_lt n (2 ^ 127)
is_of_kind i128 (negsuc n) = nat_lt n (2 ^ 127)

abbrev pub is_sign_for : Bool → IntegerKind → Bool
is_sign_for true u64 = false
is_sign_for true u128 = false
is_sign_for minus kind = true

-- the number in this kind, if the kind holds it, and else what is given
abbrev pub in_kind : IntegerKind → ℤ → Option Integer → Option Integer
in_kind kind z otherwise = cond (is_of_kind kind z) (Some (record { kind = kind; value = z }))
    otherwise

unfoldable pub integer_of : Bool → ℕ → Option IntegerKind → Option Integer
integer_of minus n (Some kind) = cond (is_sign_for minus kind) (in_kind kind (signed minus n) None)
    None
integer_of minus n None = in_kind i64 (signed minus n)
    (in_kind u64 (signed minus n)
    (in_kind i128 (signed minus n) (in_kind u128 (signed minus n) None)))

-- the number that a word spells, behind its sign, and whole
unfoldable pub unsigned_in : Bool → List ℕ → Option Integer
unsigned_in minus bytes = do
  digits ← digits_at bytes
  suffix ← suffix_in digits.1
  integer_of minus digits.0 suffix

unfoldable pub number_in : List ℕ → Option Integer
number_in [] = None
number_in (b ∷ bytes) = cond (b == 45) (unsigned_in true bytes) (unsigned_in false (b ∷ bytes))

-- a value and a slice, by what they hold
abbrev pub with_rest : {A : Type 0} → A × Bor (List ℕ) → A × List ℕ
with_rest pair = (pair.0, pair.1.now)

-- the kind that a suffix names
abbrev pub suffix_kind : Suffix → IntegerKind
suffix_kind U64 = u64
suffix_kind I64 = i64
suffix_kind U128 = u128
suffix_kind I128 = i128

-- the number that is held, in its kind
abbrev pub integer_held : Held → Integer
integer_held (held.U64 n) = record { kind = u64; value = pos n }
integer_held (held.I64 z) = record { kind = i64; value = z }
integer_held (held.U128 n) = record { kind = u128; value = pos n }
integer_held (held.I128 z) = record { kind = i128; value = z }

-- the value that holds a number
abbrev pub number_value : Option Integer → Option Form
number_value n = option_map number n

-- what can stand in a literal without quotes: what can stand in a name, and a minus
abbrev pub is_word_byte : ℕ → Bool
is_word_byte b = is_name_byte b || (b == 45)

-- the bytes of a class
abbrev pub is_of : Class → ℕ → Bool
is_of Blank = is_blank
is_of Name = is_name_byte
is_of Word = is_word_byte

-- the value, if the word is this text, and else what is given
abbrev pub if_word : List ℕ → List ℕ → Form → Option Form → Option Form
if_word word text value otherwise = cond (bytes_eq word text) (Some value) otherwise

-- the value that a literal without quotes spells
unfoldable pub value_in : List ℕ → Option Form
value_in word = if_word word (codes "undefined") undefined
    (if_word word (codes "none") none
    (if_word word (codes "true") (truth true)
    (if_word word (codes "false") (truth false) (number_value (number_in word)))))

-- a literal stands before the rest
pub record BeginsWithLiteral (bytes : List ℕ) (tree : Form) (rest : List ℕ) : Type 0 where
  pub literal : List ℕ
  pub spells : SpellsTree literal tree
  pub spelled : bytes ≡ literal ++ rest

-- a literal without quotes, brackets and braces ends where no byte of a word follows
abbrev pub Ends : Form → List ℕ → Type 0
Ends (text_value t) rest = Unit {0}
Ends (bytes_value bs) rest = Unit {0}
Ends (array xs) rest = Unit {0}
Ends (object ps) rest = Unit {0}
Ends tree rest = Stops is_word_byte rest

-- what a reader of literals answers: a literal of at most these levels and the rest, or nothing,
-- and then there is none that ends as a word does
abbrev pub IsLiteralAt : ℕ → List ℕ → Option (Form × List ℕ) → Type 0
IsLiteralAt levels xs (Some found) = (tree : Form) × (found.0 ≡ tree_value tree)
    × BeginsWithLiteral xs tree found.1 × Ends tree found.1 × (depth tree ≤ levels)
IsLiteralAt levels xs None = IsUtf8 xs → (tree : Form) (rest : List ℕ) → BeginsWithLiteral xs tree
    rest → depth tree ≤ levels → ¬ Stops is_word_byte rest

-- a literal without quotes, and the bytes behind it
unfoldable pub plain_at : List ℕ → Option (Form × List ℕ)
plain_at bytes = option_map (λ v. (v, past is_word_byte bytes))
    (value_in (front is_word_byte bytes))

-- what a reader of texts answers behind the opening quote: a text, its closing quote and the rest,
-- or nothing
abbrev pub IsQuotedAt : Bool → List ℕ → Option (Form × List ℕ) → Type 0
IsQuotedAt safe bytes (Some found) = (inner : List ℕ) × (t : List ℕ) × SpellsText inner t
    × (found.0 ≡ marked t safe) × (bytes ≡ inner ++ 34 ∷ found.1)
IsQuotedAt safe bytes None = (t inner rest : List ℕ) → IsUtf8 inner → SpellsText inner t
    → bytes ≢ inner ++ 34 ∷ rest

-- some bytes, and then those that were read
abbrev pub behind : List ℕ → Option (List ℕ × List ℕ) → Option (List ℕ × List ℕ)
behind bytes read = option_map (λ found. (bytes ++ found.0, found.1)) read

-- the byte of two hexadecimal digits
abbrev pub byte_of : ℕ → ℕ → ℕ
byte_of high low = digit_value high * 16 + digit_value low

-- the bytes that the digits up to the closing quote spell, and what stands behind it
unfoldable pub hex_at : List ℕ → Option (List ℕ × List ℕ)
hex_at [] = None
hex_at (high ∷ []) = cond (high == 34) (Some ([], [])) None
hex_at (high ∷ low ∷ rest) = cond (high == 34) (Some ([], low ∷ rest))
    (cond (nat_lt (digit_value high) 16 && nat_lt (digit_value low) 16)
    (behind (byte_of high low ∷ []) (hex_at rest)) None)

-- some bytes and a slice, by what they hold
abbrev pub bytes_rest : {A : Type 0} → Vec ℕ A × Bor (List ℕ) → List ℕ × List ℕ
bytes_rest pair = (pair.0.items, pair.1.now)

-- the value of the bytes that were read
abbrev pub bytes_read : Option (List ℕ × List ℕ) → Option (Form × List ℕ)
bytes_read found = option_map (λ pair. (bytes_value pair.0, pair.1)) found

-- parts that begin so, with commas (44) between them, up to the closing byte, and what stands
-- behind it
module _ {E : Type 0} (Begins : List ℕ → E → List ℕ → Type 0) (close : ℕ) where
  -- behind a part
  abbrev pub MoreIn : List ℕ → List E → List ℕ → Type 0
  MoreIn xs [] rest = past is_blank xs ≡ close ∷ rest
  MoreIn xs (e ∷ es) rest = (next : List ℕ) × (behind : List ℕ) × (past is_blank xs ≡ 44 ∷ next)
      × Begins (past is_blank next) e behind × MoreIn behind es rest

  -- behind the opening byte
  abbrev pub AllIn : List ℕ → List E → List ℕ → Type 0
  AllIn xs [] rest = past is_blank xs ≡ close ∷ rest
  AllIn xs (e ∷ es) rest = (behind : List ℕ) × Begins (past is_blank xs) e behind
      × MoreIn behind es rest

-- behind an item, and behind an opening bracket: the items up to the closing one (93)
abbrev pub MoreAt : List ℕ → Items Integer MarkedText KeyForm → List ℕ → Type 0
MoreAt xs all rest = MoreIn BeginsWithLiteral 93 xs (items_list all) rest

abbrev pub ItemsAt : List ℕ → Items Integer MarkedText KeyForm → List ℕ → Type 0
ItemsAt xs all rest = AllIn BeginsWithLiteral 93 xs (items_list all) rest

-- what a reader of arrays answers behind the opening bracket
abbrev pub IsArrayAt : ℕ → List ℕ → Option (Form × List ℕ) → Type 0
IsArrayAt levels xs (Some found) = (all : Items Integer MarkedText KeyForm)
    × (found.0 ≡ tree_value (array all)) × ItemsAt xs all found.1 × (depth (array all) ≤ levels)
IsArrayAt levels xs None = IsUtf8 xs → (all : Items Integer MarkedText KeyForm) (rest : List ℕ)
    → ItemsAt xs all rest → ¬ (depth (array all) ≤ levels)

-- a key stands before the rest
pub record BeginsWithKey (bytes : List ℕ) (key : KeyForm) (rest : List ℕ) : Type 0 where
  pub literal : List ℕ
  pub spells : SpellsKey literal key
  pub spelled : bytes ≡ literal ++ rest

-- what a reader of keys answers: a key and the rest, or nothing, and then there is none that ends
-- as a word does
abbrev pub IsKeyAt : List ℕ → Option (KeyForm × List ℕ) → Type 0
IsKeyAt xs (Some found) = BeginsWithKey xs found.0 found.1 × Ends (key_value found.0) found.1
IsKeyAt xs None = IsUtf8 xs → (key : KeyForm) (rest : List ℕ) → BeginsWithKey xs key rest
    → ¬ Stops is_word_byte rest

-- the key, if the word is this text, and else what is given
abbrev pub if_key : List ℕ → List ℕ → KeyForm → Option KeyForm → Option KeyForm
if_key word text key otherwise = cond (bytes_eq word text) (Some key) otherwise

-- the key that a word spells
unfoldable pub key_in : List ℕ → Option KeyForm
key_in word = if_key word (codes "true") (truth_key true)
    (if_key word (codes "false") (truth_key false) (option_map number_key (number_in word)))

-- a key without quotes, and the bytes behind it
unfoldable pub plain_key_at : List ℕ → Option (KeyForm × List ℕ)
plain_key_at bytes = option_map (λ k. (k, past is_word_byte bytes))
    (key_in (front is_word_byte bytes))

-- a key, a colon (58) and a literal stand before the rest, with blanks around the colon or none
abbrev pub BeginsWithPair : List ℕ → KeyForm × Form → List ℕ → Type 0
BeginsWithPair bytes pair rest = (after : List ℕ) × (next : List ℕ) × BeginsWithKey bytes pair.0
    after × (past is_blank after ≡ 58 ∷ next) × BeginsWithLiteral (past is_blank next) pair.1 rest

-- what a reader of pairs answers
abbrev pub IsPairAt : ℕ → List ℕ → Option (KeyForm × Form × List ℕ) → Type 0
IsPairAt levels xs (Some found) = (tree : Form) × (found.1 ≡ tree_value tree)
    × BeginsWithPair xs (found.0, tree) found.2 × Ends tree found.2 × (depth tree ≤ levels)
IsPairAt levels xs None = IsUtf8 xs → (pair : KeyForm × Form) (rest : List ℕ)
    → BeginsWithPair xs pair rest → depth pair.1 ≤ levels → ¬ Stops is_word_byte rest

-- what a reader answers that puts the pair it reads into a map of some pairs
abbrev pub IsPairPut : ℕ → List ℕ → List (KeyForm × Form) → List (KeyForm × Form)
    → Option (List ℕ) → Type 0
IsPairPut levels xs pairs longer (Some rest) = (key : KeyForm) × (value : Form)
    × IsPairAt levels xs (Some (key, value, rest)) × (longer ≡ put key_form_order pairs key value)
IsPairPut levels xs pairs longer None = IsPairAt levels xs None

-- behind a pair, and behind an opening brace: the pairs up to the closing one (125)
abbrev pub MorePairsAt : List ℕ → Members Integer MarkedText KeyForm → List ℕ → Type 0
MorePairsAt xs all rest = MoreIn BeginsWithPair 125 xs (members_list all) rest

abbrev pub PairsAt : List ℕ → Members Integer MarkedText KeyForm → List ℕ → Type 0
PairsAt xs all rest = AllIn BeginsWithPair 125 xs (members_list all) rest

-- what a reader of maps answers behind the opening brace
abbrev pub IsMapAt : ℕ → List ℕ → Option (Form × List ℕ) → Type 0
IsMapAt levels xs (Some found) = (all : Members Integer MarkedText KeyForm)
    × (found.0 ≡ tree_value (object all)) × PairsAt xs all found.1 × (depth (object all) ≤ levels)
IsMapAt levels xs None = IsUtf8 xs → (all : Members Integer MarkedText KeyForm) (rest : List ℕ)
    → PairsAt xs all rest → ¬ (depth (object all) ≤ levels)

-- a key and a slice, by what they hold
abbrev pub key_rest : Key × Bor (List ℕ) → KeyForm × List ℕ
key_rest pair = (key_form pair.0, pair.1.now)

-- two names behind one another
unfoldable pub names_at : List ℕ → Option ((List ℕ × List ℕ) × List ℕ)
names_at bytes = do
  left ← operand_at bytes
  right ← operand_at left.1
  Some ((left.0, right.0), right.1)

-- two names and the bytes behind them, by what they hold
abbrev pub names_rest : (Bor (List ℕ) × Bor (List ℕ)) × Bor (List ℕ) → (List ℕ × List ℕ) × List ℕ
names_rest found = (named_rest found.0, found.1.now)

unfoldable pub one_in : List ℕ → Option (List ℕ)
one_in bytes = do
  name ← operand_at bytes
  cond (list_all is_blank name.1) (Some name.0) None

-- behind an arrow (45 and 62)
unfoldable pub arrow_at : List ℕ → Option (List ℕ)
arrow_at [] = None
arrow_at (b ∷ []) = None
arrow_at (b ∷ c ∷ rest) = cond ((b == 45) && (c == 62)) (Some rest) None

-- the name for what is found, where one may be and there are more than blanks
unfoldable pub into_in : Bool → List ℕ → Option (Option (List ℕ))
into_in keeps bytes = cond (list_all is_blank bytes) (Some None)
    (cond keeps (option_map Some (gap_at bytes >>= arrow_at >>= one_in)) None)

-- the number that a sign and digits spell, if nothing else stands there and i128 holds it
unfoldable pub small_in : Bool → List ℕ → Option ℤ
small_in minus bytes = do
  digits ← digits_at bytes
  cond ((length digits.1 == 0) && is_of_kind i128 (signed minus digits.0))
      (Some (signed minus digits.0)) None

-- the bound that a word spells (95 is _, 45 a minus)
unfoldable pub bound_in : List ℕ → Option (Option ℤ)
bound_in [] = None
bound_in (b ∷ bytes) =
    cond ((b == 95) && (length bytes == 0)) (Some None)
    (cond (b == 45) (option_map Some (small_in true bytes))
    (option_map Some (small_in false (b ∷ bytes))))

-- the bound behind a gap
unfoldable pub bound_at : List ℕ → Option (Option ℤ × List ℕ)
bound_at bytes = do
  word ← gap_at bytes
  bound ← bound_in (front is_word_byte word)
  Some (bound, past is_word_byte word)

-- three bounds, one behind another
unfoldable pub bounds_at : List ℕ → Option (Bounds × List ℕ)
bounds_at bytes = do
  start ← bound_at bytes
  end ← bound_at start.1
  step ← bound_at end.1
  Some (record { start = start.0; end = end.0; step = step.0 }, step.1)

-- whether there are no bytes, or a # (35) is the first
abbrev pub is_end_or_comment : List ℕ → Bool
is_end_or_comment [] = true
is_end_or_comment (b ∷ bytes) = b == 35
