-- What values are taken as, by the form in which they are held.
use Rattle.std.specs.Prelude.{◌≡◌, ℕ, ℤ, List, codes, Option, Some, None, Result, Ok, Err}
use Rattle.std.specs.Prelude.{MatchOption}
use Rattle.std.specs.Cow.{cow_str_bytes, IsOwnedStr}
use Rattle.std.specs.List.{AllZip}
use Rattle.std.specs.Option.{ok_or}
use Rattle.std.specs.declared.borrow.CowStr.{CowStr}
use Rattle.tera_conversions.specs.Given.{PartsRefuse}
use Rattle.tera_meaning.specs.Arithmetic.{and_then, small}
use Rattle.tera_meaning.specs.Form.{Form, MarkedText}
use Rattle.tera_meaning.specs.KeyMeaning.{KeyForm}
use Rattle.tera_meaning.specs.Lookup.{name_of}
use Rattle.tera_meaning.specs.Meaning.{layout}
use Rattle.tera_meaning.specs.Read.{number_in, text_in, items_in, members_in}
use Rattle.tera_meaning.specs.Tree.{undefined, none, truth, number, text, bytes, array, object}
use Rattle.tera_report.specs.Errors.{Raises}
use Rattle.tera_report.specs.Refusal.{Refusal, stated, invalid_argument, number_outside_i128}
use Rattle.tera_report.specs.declared.errors.Error.{Error}
use Rattle.tera_meaning.specs.Quoted.{Prints}

-- the error of a call that is to give this and takes no memory for it: of its refusal, or want of
-- memory in its place
abbrev pub Denies : {X : Type 0} → Result X Refusal → Error → Type 0
Denies (Ok x) e = ⊥
Denies (Err refusal) e = Raises (stated refusal) e

-- what a value holds of a kind, or the refusal of a value of another kind under the name of the
-- type that was wanted
abbrev pub wanted : {X : Type 0} → List ℕ → Option X → Form → Result X Refusal
wanted type held value = ok_or held (invalid_argument type (name_of value))

abbrev pub as_text : Form → Result (List ℕ) Refusal
as_text value = wanted (codes "&str") (text_in value) value

abbrev pub as_pairs : Form → Result (List (KeyForm × Form)) Refusal
as_pairs value = wanted (codes "Map") (members_in value) value

abbrev pub as_items : Form → Result (List Form) Refusal
as_items value = wanted (codes "&[Value]") (items_in value) value

-- the number of a value, where an i128 holds it
abbrev pub as_number : Form → Result ℤ Refusal
as_number value = and_then (wanted (codes "Number") (number_in value) value)
    (λ z. ok_or (small z) (number_outside_i128 z))

-- a text with its flag
abbrev pub marked_text_in : Form → Option MarkedText
marked_text_in undefined = None
marked_text_in none = None
marked_text_in (truth b) = None
marked_text_in (number n) = None
marked_text_in (text t) = Some t
marked_text_in (bytes bs) = None
marked_text_in (array xs) = None
marked_text_in (object ps) = None

abbrev pub as_marked_text : Form → Result MarkedText Refusal
as_marked_text value = wanted (codes "string") (marked_text_in value) value

-- a text lent as it is, or any other value printed
abbrev pub TakesText : {Z : Type 0} → Form → CowStr Z → Type 0
TakesText value t = MatchOption (text_in value)
    (IsOwnedStr t × Prints (layout value) (cow_str_bytes t))
    (λ held. ¬ IsOwnedStr t × (cow_str_bytes t ≡ held))

module _ {V X : Type 0} (items : V → Option (List V)) (takes : V → X → Type 0) where
  -- each item of an array
  abbrev pub TakesItems : V → List X → Type 0
  TakesItems value taken = (held : List V) × (items value ≡ Some held) × AllZip takes held taken

module _ {V X : Type 0} (items : V → Option (List V)) (is_no_array : V → Error → Type 0)
    (takes : V → X → Type 0) (denies : V → Error → Type 0) where
  -- the first refusal of an item, or that of what is no array
  abbrev pub DeniesItems : V → Error → Type 0
  DeniesItems value e = MatchOption (items value) (is_no_array value e)
      (λ held. PartsRefuse takes denies held e)

abbrev pub IsNoArray : Form → Error → Type 0
IsNoArray value e = Raises (invalid_argument (codes "Vec<Value>") (name_of value)) e
