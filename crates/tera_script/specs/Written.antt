-- The one literal of each form: how a value is written where a script is made.
use Rattle.std.specs.Prelude.{◌≡◌, ◌≤◌, ◌<◌, ℕ, ◌/◌, ◌%◌, ◌||◌, ◌&&◌, ◌==◌, not, nat_lt, cond}
use Rattle.std.specs.Prelude.{Bool, true, false, ℤ, Result, Ok, Err}
use Rattle.std.specs.Prelude.{List, [], ◌∷◌, ◌++◌, flat_map, map, Option, Some, None}
use Rattle.std.specs.Prelude.{encode_utf8, codes}
use Rattle.std.specs.Char.{digit_char}
use Rattle.std.specs.Fmt.{digits, signed_decimal}
use Rattle.std.specs.Str.{chars}
use Rattle.tera_meaning.specs.Form.{Form, MarkedText}
use Rattle.tera_meaning.specs.Integer.{IntegerKind, u64, i64, u128, i128, Integer}
use Rattle.tera_meaning.specs.KeyMeaning.{KeyForm, KeyText, truth_key, number_key, text_key}
use Rattle.tera_meaning.specs.KeyMeaning.{owned, key_text}
use Rattle.tera_meaning.specs.Printed.{printed_truth}
use Rattle.tera_meaning.specs.Tree.{Items, Members, undefined, none, truth, number, text, bytes}
use Rattle.tera_meaning.specs.Tree.{array, object, no_items, item, no_members, member, relabeled}
use Rattle.tera_meaning.specs.Tree.{depth}
use Rattle.tera_report.specs.Quoted.{is_control}
use Rattle.tera_script.specs.Line.{levels}
use Rattle.tera_script.specs.Literal.{mark_of}
use Rattle.tera_script.specs.Number.{suffix_of}
use Rattle.tera_script.specs.Readers.{is_of_kind}
use Rattle.tera_script.specs.Text.{Token, itself, quote, backslash, line_feed, carriage_return, tab}
use Rattle.tera_script.specs.Text.{null, character, spelling}
use Rattle.tera_script.specs.declared.write.LiteralError.{LiteralError}
use Rattle.tera_script.specs.declared.write.LiteralError.TheVariants.{TooDeep, Refused}

-- whether no kind that the reader tries before this one holds the number
abbrev pub is_first : IntegerKind → ℤ → Bool
is_first i64 z = true
is_first u64 z = not (is_of_kind i64 z)
is_first i128 z = not (is_of_kind i64 z || is_of_kind u64 z)
is_first u128 z = not (is_of_kind i64 z || (is_of_kind u64 z || is_of_kind i128 z))

-- the suffix of a number: none where it is read in its kind without one
abbrev pub suffix_for : Integer → Option IntegerKind
suffix_for n = cond (is_first n.kind n.value) None (Some n.kind)

abbrev pub number_literal : Integer → List ℕ
number_literal n = signed_decimal n.value ++ suffix_of (suffix_for n)

-- two digits for each byte, small letters
abbrev pub bytes_literal : List ℕ → List ℕ
bytes_literal [] = []
bytes_literal (b ∷ bs) =
    digit_char (b / 16) ∷ digit_char (b % 16) ∷ bytes_literal bs

-- where ascii is true, what is written is ASCII
module _ (ascii : Bool) where
  -- whether a character that has no escape of one letter is written by its number: a control
  -- character, and past ASCII (127) where only ASCII is written
  abbrev pub is_numbered : ℕ → Bool
  is_numbered c = is_control c || (ascii && nat_lt 127 c)

  -- the tokens of a character
  abbrev pub tokens_of : ℕ → List Token
  tokens_of c =
      cond (c == 34) (quote ∷ []) (cond (c == 92) (backslash ∷ [])
      (cond (c == 10) (line_feed ∷ []) (cond (c == 13) (carriage_return ∷ [])
      (cond (c == 9) (tab ∷ []) (cond (c == 0) (null ∷ [])
      (cond (is_numbered c) (character (digits 16 false c) ∷ []) (map itself (encode_utf8 c))))))))

  -- what stands between the quotes of a text
  abbrev pub inside : List ℕ → List ℕ
  inside t = flat_map (λ c. flat_map spelling (tokens_of c)) (chars t)

  -- a text between quotes, and one with its mark
  abbrev pub quoted_literal : List ℕ → List ℕ
  quoted_literal t = 34 ∷ (inside t ++ 34 ∷ [])

  abbrev pub text_literal : MarkedText → List ℕ
  text_literal t = mark_of t.safe ++ quoted_literal t.spelled

  abbrev pub key_literal : KeyForm → List ℕ
  key_literal (truth_key b) = printed_truth b
  key_literal (number_key n) = number_literal n
  key_literal (text_key t) = quoted_literal (key_text t)

  -- the literal of a form. One blank stands behind each comma and each colon, and no other blank
  abbrev mutual
    pub literal_of : Form → List ℕ
    literal_of undefined = codes "undefined"
    literal_of none = codes "none"
    literal_of (truth b) = printed_truth b
    literal_of (number n) = number_literal n
    literal_of (text t) = text_literal t
    literal_of (bytes bs) = codes "x\"" ++ (bytes_literal bs ++ codes "\"")
    literal_of (array xs) = codes "[" ++ (items_literal xs ++ codes "]")
    literal_of (object ps) = codes "{" ++ (pairs_literal ps ++ codes "}")

    pub items_literal : Items Integer MarkedText KeyForm → List ℕ
    items_literal no_items = []
    items_literal (item x xs) = literal_of x ++ more_literal xs

    pub more_literal : Items Integer MarkedText KeyForm → List ℕ
    more_literal no_items = []
    more_literal (item x xs) = codes ", " ++ (literal_of x ++ more_literal xs)

    pub pairs_literal : Members Integer MarkedText KeyForm → List ℕ
    pairs_literal no_members = []
    pairs_literal (member k x ps) =
        key_literal k ++ (codes ": " ++ (literal_of x ++ more_pairs_literal ps))

    pub more_pairs_literal : Members Integer MarkedText KeyForm → List ℕ
    more_pairs_literal no_members = []
    more_pairs_literal (member k x ps) =
        codes ", " ++ (key_literal k ++ (codes ": " ++ (literal_of x ++ more_pairs_literal ps)))

-- the key, which owns its text
abbrev pub owned_key : KeyForm → KeyForm
owned_key (truth_key b) = truth_key b
owned_key (number_key n) = number_key n
owned_key (text_key t) = text_key (owned (key_text t))

-- the form whose keys own their texts, as those that are read do
abbrev pub owned_form : Form → Form
owned_form form = relabeled (λ n. n) (λ t. t) owned_key form

-- what is said of a value that nests too deep
abbrev pub too_deep : List ℕ
too_deep = codes "Values nested deeper than 64 levels have no literal"

-- the literal was put; or the value nests too deep, and nothing was; or the sink refused a piece
abbrev pub WritesLiteral : {S F : Type 0} → (S → List ℕ → S → Type 0) → (S → List ℕ → S → Type 0)
    → Form → List ℕ → S → Result (Unit {0}) (LiteralError F) → S → Type 0
WritesLiteral takes fails value literal old (Ok done) new =
    (depth value ≤ levels) × takes old literal new
WritesLiteral takes fails value literal old (Err TooDeep) new =
    (levels < depth value) × (new ≡ old)
WritesLiteral takes fails value literal old (Err (Refused fault)) new =
    (depth value ≤ levels) × fails old literal new
