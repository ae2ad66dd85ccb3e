-- What the readers of operands and of commands answer.
use Rattle.std.specs.Prelude.{◌≡◌, ◌≢◌, ◌⊎◌, ℕ, List, ◌++◌, Option, Some, None}
use Rattle.std.specs.Cow.{cow_str_bytes}
use Rattle.std.specs.declared.borrow.CowStr.{CowStr}
use Rattle.std.specs.Borrow.{Bor}
use Rattle.std.specs.Str.{IsUtf8}
use Rattle.tera_meaning.specs.Conversion.{IntegerType, type_name}
use Rattle.tera_meaning.specs.Form.{Form}
use Rattle.tera_meaning.specs.KeyMeaning.{KeyForm}
use Rattle.tera_meaning.specs.Request.{Command}
use Rattle.tera_meaning.specs.State.{State}
use Rattle.tera_meaning.specs.Tree.{object, members}
use Rattle.tera_values.specs.Converted.{integer_type}
use Rattle.tera_values.specs.declared.integers.IntType.{IntType}
use Rattle.tera_script.specs.Line.{SpellsQuoted, SpellsValue, AreNamed, SpellsGiven}
use Rattle.tera_script.specs.Line.{SpellsOperands, SpellsCommand, BringsNothing, HasNoEscape}
use Rattle.tera_script.specs.Line.{IsBare}
use Rattle.tera_script.specs.Readers.{Stops, is_word_byte, Ends}
use Rattle.tera_script.specs.Verb.{Given, Making, of_text, of_literal, of_map, Row}
use Rattle.tera_script.specs.Word.{is_name_byte, AreBlanks}
use Rattle.tera_script.specs.declared.verb.Shape.{Shape}
use Rattle.tera_script.specs.declared.verb.Shape.TheVariants as shape

-- what spells e stands before the rest
pub record Begins {E : Type 0} (Spells : List ℕ → E → Type 0) (bytes : List ℕ) (e : E)
    (rest : List ℕ) : Type 0 where
  pub part : List ℕ
  pub spells : Spells part e
  pub spelled : bytes ≡ part ++ rest

-- what a reader answers: what stands there and the rest, which ends it, or nothing, and then
-- nothing that ends as a word does stands there
abbrev pub IsPartAt : {E : Type 0} → (List ℕ → E → Type 0) → (E → List ℕ → Type 0) → List ℕ
    → Option (E × List ℕ) → Type 0
IsPartAt Spells EndsSo bytes (Some found) = Begins Spells bytes found.0 found.1
    × EndsSo found.0 found.1
IsPartAt {E} Spells EndsSo bytes None =
    IsUtf8 bytes → (e : E) (rest : List ℕ) → Begins Spells bytes e rest → ¬ Stops is_word_byte rest

-- a name ends where no byte of a name follows, a bound where no byte of a word does, and a text in
-- quotes or a map anywhere
abbrev pub EndsName : {E : Type 0} → E → List ℕ → Type 0
EndsName e rest = Stops is_name_byte rest

abbrev pub EndsWord : {E : Type 0} → E → List ℕ → Type 0
EndsWord e rest = Stops is_word_byte rest

abbrev pub EndsItself : {E : Type 0} → E → List ℕ → Type 0
EndsItself e rest = Unit {0}

-- a name and something behind it end where that does
abbrev pub EndsBoth : {E : Type 0} → (E → List ℕ → Type 0) → List ℕ × E → List ℕ → Type 0
EndsBoth EndsSo both rest = EndsSo both.1 rest

abbrev pub IsTextAt : List ℕ → Option (List ℕ × List ℕ) → Type 0
IsTextAt bytes answer = IsPartAt SpellsQuoted EndsItself bytes answer

abbrev pub IsValueAt : List ℕ → Option (Form × List ℕ) → Type 0
IsValueAt bytes answer = IsPartAt SpellsValue Ends bytes answer

abbrev pub text_rest : {A : Type 0} → CowStr A × Bor (List ℕ) → List ℕ × List ℕ
text_rest pair = (cow_str_bytes pair.0, pair.1.now)

-- where operands of a shape end
abbrev pub EndsGiven : (shape : Shape) → Given shape → List ℕ → Type 0
EndsGiven shape.Name = EndsName
EndsGiven shape.Names = EndsBoth EndsName
EndsGiven shape.Text = EndsBoth EndsItself
EndsGiven shape.Bounds = EndsBoth EndsWord
EndsGiven shape.Type = EndsName
EndsGiven shape.Literal = EndsBoth Ends
EndsGiven shape.Map = EndsItself

abbrev pub IsGivenAt : (shape : Shape) → List ℕ → Option (Given shape × List ℕ) → Type 0
IsGivenAt shape bytes answer = IsPartAt (SpellsGiven shape) (EndsGiven shape) bytes answer

-- what a look-up of a type's name answers: the type of that name, or nothing where it is no type's
abbrev pub IsTypeOf : List ℕ → Option IntType → Type 0
IsTypeOf name (Some type) = type_name (integer_type type) ≡ name
IsTypeOf name None = (type : IntegerType) → type_name type ≢ name

-- what is answered of a value: the state of its pairs, or nothing where it is no map whose keys are
-- all texts
abbrev pub IsSourceOf : Form → Option State → Type 0
IsSourceOf value (Some state) = (pairs : List (KeyForm × Form)) × (value ≡ object (members pairs))
    × AreNamed pairs state
IsSourceOf value None =
    (pairs : List (KeyForm × Form)) (state : State) → value ≡ object (members pairs)
    → ¬ AreNamed pairs state

-- a part of which this holds stands before blanks
pub record Before (P : List ℕ → Type 0) (bytes : List ℕ) : Type 0 where
  pub part : List ℕ
  pub after : List ℕ
  pub spells : P part
  pub blanks : AreBlanks after
  pub spelled : bytes ≡ part ++ after

-- what spells e stands before blanks
abbrev pub EndsIn : {E : Type 0} → (List ℕ → E → Type 0) → List ℕ → E → Type 0
EndsIn Spells bytes e = Before (λ part. Spells part e) bytes

-- what a reader answers of what may stand before blanks: one that does, or nothing where none does
abbrev pub IsOneOf : {E : Type 0} → (List ℕ → E → Type 0) → List ℕ → Option E → Type 0
IsOneOf Spells bytes (Some e) = EndsIn Spells bytes e
IsOneOf {E} Spells bytes None = IsUtf8 bytes → (e : E) → ¬ EndsIn Spells bytes e

-- the operands of a call
abbrev pub AreOperandsOf : Row → List ℕ → Option Command → Type 0
AreOperandsOf row bytes answer = IsOneOf (SpellsOperands row) bytes answer

-- a call and its operands
abbrev pub IsCommandAt : List ℕ → Option Command → Type 0
IsCommandAt bytes answer = IsOneOf SpellsCommand bytes answer

-- operands that take no memory to read: those with a text where they have no escape, and those that
-- bring values where no quote, bracket or brace stands in them
abbrev pub OperandsNeedNone : Making → List ℕ → Type 0
OperandsNeedNone (of_text f) bytes = IsBare bytes ⊎ HasNoEscape bytes
OperandsNeedNone (of_literal f) bytes = IsBare bytes
OperandsNeedNone (of_map f) bytes = IsBare bytes
OperandsNeedNone making bytes = Unit {0}

-- no quote, bracket or brace stands in the bytes, or they are a command that brings nothing, by no
-- text with an escape
abbrev pub CommandNeedsNone : List ℕ → Type 0
CommandNeedsNone bytes = IsBare bytes
    ⊎ (HasNoEscape bytes × ((command : Command) × EndsIn SpellsCommand bytes command
    × BringsNothing command.request))
