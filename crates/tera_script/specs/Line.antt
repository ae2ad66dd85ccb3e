-- What a line of a script says.
use Rattle.std.specs.Prelude.{◌≡◌, ◌≢◌, ◌≤◌, ℕ, ℤ, ◌⊎◌, Bool, true, false, List, [], ◌∷◌, ◌++◌}
use Rattle.std.specs.Prelude.{Option, Some, None, IsSome, codes}
use Rattle.std.specs.FinMap.{get}
use Rattle.std.specs.List.{AllByRecursion}
use Rattle.std.specs.Str.{IsUtf8}
use Rattle.std.specs.Str.Parse.{IsNumeral, digits_value}
use Rattle.tera_meaning.specs.Conversion.{type_name}
use Rattle.tera_meaning.specs.Form.{Form}
use Rattle.tera_meaning.specs.Integer.{i128, IsOfKind}
use Rattle.tera_meaning.specs.KeyMeaning.{KeyForm, text_key, owned}
use Rattle.tera_meaning.specs.Pairs.{key_form_order, value_at}
use Rattle.tera_meaning.specs.Request.{Command, Request, set, extend}
use Rattle.tera_meaning.specs.State.{State}
use Rattle.tera_meaning.specs.Tree.{depth, text, object, members}
use Rattle.tera_script.specs.declared.bound.Bounds.{Bounds}
use Rattle.tera_script.specs.declared.verb.Shape.{Shape}
use Rattle.tera_script.specs.declared.verb.Shape.TheVariants as shape
use Rattle.tera_script.specs.declared.verb.Verb.{Verb}
use Rattle.tera_script.specs.Literal.{SpellsTree, tree_value}
use Rattle.tera_script.specs.Number.{sign_of, signed}
use Rattle.tera_script.specs.Verb.{Given, shape_of, requested, Row, row_of, word_of}
use Rattle.tera_script.specs.Word.{AreBlanks, IsGap, IsName}
use Rattle.tera_values.specs.Key.{text_in_key}

-- a gap and a name
abbrev pub SpellsOperand : List ℕ → List ℕ → Type 0
SpellsOperand bytes name = (gap : List ℕ) × IsGap gap × IsName name × (bytes ≡ gap ++ name)

-- how deep arrays and maps may nest, as they are written; the outermost is level 1
abbrev pub levels : ℕ
levels = 64

-- a gap and a literal
abbrev pub SpellsValue : List ℕ → Form → Type 0
SpellsValue bytes value =
    (gap : List ℕ) × (literal : List ℕ) × (tree : Form) × IsGap gap × SpellsTree literal tree
    × (depth tree ≤ levels)
    × (value ≡ tree_value tree) × (bytes ≡ gap ++ literal)

-- the keys of the pairs are all texts, and the state holds under each text what is paired with it,
-- and nothing else
abbrev pub AreNamed : List (KeyForm × Form) → State → Type 0
AreNamed pairs state =
    AllByRecursion (λ pair. IsSome (text_in_key pair.0)) pairs
    × ((name : List ℕ) → get state name ≡ value_at key_form_order pairs (text_key (owned name)))

-- a gap and a map whose keys are all texts, and the state of its pairs
abbrev pub SpellsSource : List ℕ → State → Type 0
SpellsSource bytes source =
    (pairs : List (KeyForm × Form)) × SpellsValue bytes (object (members pairs))
    × AreNamed pairs source

-- an operand, and behind it what spells something else
abbrev pub SpellsBoth : {E : Type 0} → (List ℕ → E → Type 0) → List ℕ → List ℕ × E → Type 0
SpellsBoth Spells bytes both =
    (first : List ℕ) × (second : List ℕ) × SpellsOperand first both.0 × Spells second both.1
    × (bytes ≡ first ++ second)

-- a gap, an arrow, a gap and the name under which is kept what is found
abbrev pub SpellsArrow : List ℕ → List ℕ → Type 0
SpellsArrow bytes into =
    (gap : List ℕ) × (operand : List ℕ) × IsGap gap × SpellsOperand operand into
    × (bytes ≡ gap ++ (codes "->" ++ operand))

-- nothing; or, if it may be there, that
abbrev pub SpellsInto : Bool → List ℕ → Option (List ℕ) → Type 0
SpellsInto keeps bytes None = bytes ≡ []
SpellsInto true bytes (Some into) = SpellsArrow bytes into
SpellsInto false bytes (Some into) = ⊥

-- a gap and a text in quotes with no mark
abbrev pub SpellsQuoted : List ℕ → List ℕ → Type 0
SpellsQuoted bytes t =
    (gap : List ℕ) × (literal : List ℕ) × IsGap gap
    × SpellsTree literal (text (record { spelled = t; safe = false }))
    × (bytes ≡ gap ++ literal)

-- _ where there is no bound; else an optional minus and digits, of a number that i128 holds
abbrev pub IsBound : List ℕ → Option ℤ → Type 0
IsBound word None = word ≡ codes "_"
IsBound word (Some z) =
    (minus : Bool) × (digits : List ℕ) × IsNumeral 10 digits × (word ≡ sign_of minus ++ digits)
    × (z ≡ signed minus (digits_value 10 digits)) × IsOfKind i128 z

-- a gap and a bound
abbrev pub SpellsBound : List ℕ → Option ℤ → Type 0
SpellsBound bytes bound = (gap : List ℕ) × (word : List ℕ) × IsGap gap × IsBound word bound
    × (bytes ≡ gap ++ word)

-- three bounds one behind another
abbrev pub SpellsBounds : List ℕ → Bounds → Type 0
SpellsBounds bytes bounds =
    (first : List ℕ) × (second : List ℕ) × (third : List ℕ) × SpellsBound first bounds.start
    × SpellsBound second bounds.end
    × SpellsBound third bounds.step × (bytes ≡ first ++ (second ++ third))

-- operands of a shape, and what they give
abbrev pub SpellsGiven : (shape : Shape) → List ℕ → Given shape → Type 0
SpellsGiven shape.Name = SpellsOperand
SpellsGiven shape.Names = SpellsBoth SpellsOperand
SpellsGiven shape.Text = SpellsBoth SpellsQuoted
SpellsGiven shape.Bounds = SpellsBoth SpellsBounds
SpellsGiven shape.Type =
    λ bytes given. SpellsBoth SpellsOperand bytes (type_name given.0, given.1)
SpellsGiven shape.Literal = SpellsBoth SpellsValue
SpellsGiven shape.Map = SpellsSource

-- what stands behind the word of a call, and the command that it gives: operands of the call's
-- shape, and then the name for what is found, if one is given
pub record SpellsOperands (row : Row) (bytes : List ℕ) (command : Command) : Type 0 where
  pub given : Given (shape_of row.making)
  pub first : List ℕ
  pub second : List ℕ
  pub spells : SpellsGiven (shape_of row.making) first given
  pub request : command.request ≡ requested row.making given
  pub into : SpellsInto row.keeps second command.into
  pub whole : bytes ≡ first ++ second

-- the word of a call and its operands
abbrev pub SpellsCommand : List ℕ → Command → Type 0
SpellsCommand bytes command =
    (verb : Verb) × (operands : List ℕ) × SpellsOperands (row_of verb) operands command
    × (bytes ≡ word_of verb ++ operands)

-- no text, byte string, array or map begins in it: no quote (34), bracket (91) or brace (123)
-- stands there
abbrev pub IsBare : List ℕ → Type 0
IsBare line = AllByRecursion (λ b. (b ≢ 34) × (b ≢ 91) × (b ≢ 123)) line

-- no escape stands in it: no backslash (92)
abbrev pub HasNoEscape : List ℕ → Type 0
HasNoEscape line = AllByRecursion (λ b. b ≢ 92) line

-- a command with blanks before and after it, or with none, all of it UTF-8
pub record Says (line : List ℕ) (command : Command) : Type 0 where
  pub utf8 : IsUtf8 line
  pub before : List ℕ
  pub call : List ℕ
  pub after : List ℕ
  pub padded : AreBlanks before × AreBlanks after
  pub spelled : SpellsCommand call command
  pub whole : line ≡ before ++ call ++ after

-- blanks alone, or blanks and then a # (35) with any bytes behind it
abbrev pub IsSkipped : List ℕ → Type 0
IsSkipped line =
    AreBlanks line
    ⊎ ((blanks : List ℕ) × (comment : List ℕ) × AreBlanks blanks × (line ≡ blanks ++ 35 ∷ comment))

-- any other line that says no command
abbrev pub IsBad : List ℕ → Type 0
IsBad line = (¬ IsSkipped line) × ((command : Command) → ¬ Says line command)

-- the request brings no value and no source
abbrev pub BringsNothing : Request → Type 0
BringsNothing (set name value) = ⊥
BringsNothing (extend source) = ⊥
BringsNothing _ = Unit {0}

-- it says a command that brings no value, by no text with an escape
abbrev pub SaysLent : List ℕ → Type 0
SaysLent line =
    HasNoEscape line × ((command : Command) × Says line command × BringsNothing command.request)
