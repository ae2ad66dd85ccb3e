-- What the filters of these programs give.
use Rattle.std.specs.Prelude.{◌≡◌, ◌≢◌, ◌⊎◌, ◌++◌, ℕ, pos, Bool, List, [], ◌∷◌, map, codes}
use Rattle.std.specs.Prelude.{if◌then◌else◌}
use Rattle.std.specs.Prelude.{Option, None, Some, Ok, MatchOption}
use Rattle.std.specs.List.{Contains}
use Rattle.std.specs.Option.{IsSomeAnd}
use Rattle.tera.specs.Conversion.{IntegerType, converted}
use Rattle.tera.specs.Errors.{IsOutOfMemory, Raises}
use Rattle.tera.specs.Form.{Form, MarkedText}
use Rattle.tera.specs.Kind.{kind_in, undefined_kind}
use Rattle.tera.specs.Read.{items_in}
use Rattle.tera.specs.Refusal.{missing_argument}
use Rattle.tera.specs.Rendered.{RendersNot, is_shown_plain}
use Rattle.tera.specs.SliceRule.{IsSliced}
use Rattle.tera.specs.Taken.{Denies, DeniesItems, IsNoArray, TakesItems, as_marked_text}
use Rattle.tera.specs.Tree.{text}
use Rattle.tera.specs.View.{marked}
use Rattle.tera.specs.types.Error.{Error}

-- a text up to the length that is given, with its flag
abbrev pub IsTruncated : MarkedText → Option Form → Form → Type 0
IsTruncated t given v =
    IsSomeAnd given (λ length. (n : ℕ) × (converted IntegerType.u64 length ≡ Ok (pos n))
    × IsSliced (text t) None (Some (pos n)) None (Ok v))

-- no length is given, or it is none
abbrev pub RefusesLength : Option Form → Error → Type 0
RefusesLength given e = MatchOption given (Raises (missing_argument (codes "length")) e)
    (λ length. Denies (converted IntegerType.u64 length) e)

-- a value, or the one that is given where it is undefined
abbrev pub IsOrDefault : Form → Option Form → Form → Type 0
IsOrDefault value given v =
    (kind_in value ≡ undefined_kind → given ≡ Some v) × (kind_in value ≢ undefined_kind → v ≡ value)

-- the value is undefined, and none is given
abbrev pub LacksDefault : Form → Option Form → Error → Type 0
LacksDefault value given e =
    (kind_in value ≡ undefined_kind) × (given ≡ None) × Raises (missing_argument (codes "value")) e

-- texts one after another, with one between them
abbrev pub joined : List ℕ → List (List ℕ) → List ℕ
joined between [] = []
joined between (t ∷ []) = t
joined between (t ∷ (next ∷ texts)) = t ++ (between ++ joined between (next ∷ texts))

-- these are the texts of an array, and this is the separator that is given
abbrev pub AreTexts : Form → List MarkedText → Type 0
AreTexts value parts = TakesItems items_in (λ item part. as_marked_text item ≡ Ok part) value parts

abbrev pub IsSeparator : Option Form → MarkedText → Type 0
IsSeparator given between = IsSomeAnd given (λ sep. as_marked_text sep ≡ Ok between)

module _ {S : Type 0} (escapes : S → Bool) (escaped : S → List ℕ → List ℕ) (state : S) where
  -- a text as it is shown
  abbrev pub shown : MarkedText → List ℕ
  shown t = if is_shown_plain escapes state t then t.spelled else escaped state t.spelled

  -- the texts of an array as they are shown, with the one that is given between them
  abbrev pub IsJoined : Form → Option Form → Form → Type 0
  IsJoined value given v = (parts : List MarkedText) × (between : MarkedText)
      × AreTexts value parts × IsSeparator given between
      × (v ≡ marked (joined (shown between) (map shown parts)) (escapes state))

-- the value is no array of texts
abbrev pub RefusesTexts : Form → Error → Type 0
RefusesTexts value e =
    DeniesItems items_in IsNoArray (λ item part. as_marked_text item ≡ Ok part)
    (λ item. Denies (as_marked_text item)) value e

-- no separator is given, or it is no text
abbrev pub RefusesSeparator : Option Form → Error → Type 0
RefusesSeparator given e = MatchOption given (Raises (missing_argument (codes "sep")) e)
    (λ sep. Denies (as_marked_text sep) e)

module _ {S : Type 0} (escapes : S → Bool) (refuses : S → List ℕ → Error → Type 0) (state : S) where
  -- one of the texts that are escaped was not, or there was no memory
  abbrev pub EscapeRefuses : List MarkedText → Error → Type 0
  EscapeRefuses texts e = IsOutOfMemory e
      ⊎ ((t : MarkedText) × Contains texts t × RendersNot escapes refuses state t e)

  -- the value is no array of texts; or it is one, and then the separator is refused, or one of the
  -- texts as it is escaped
  abbrev pub RefusesJoined : Form → Option Form → Error → Type 0
  RefusesJoined value given e = RefusesTexts value e
      ⊎ ((parts : List MarkedText) × AreTexts value parts × (RefusesSeparator given e
      ⊎ ((between : MarkedText) × IsSeparator given between
      × EscapeRefuses (between ∷ parts) e)))
