-- How a text is shown.
use Rattle.std.specs.Prelude.{◌≡◌, ◌||◌, not, ℕ, Bool, true, false, List}
use Rattle.std.specs.Cow.{cow_str_bytes, IsOwnedStr}
use Rattle.std.specs.declared.borrow.CowStr.{CowStr}
use Rattle.tera_meaning.specs.Form.{MarkedText}
use Rattle.tera_report.specs.declared.errors.Error.{Error}

module _ {S : Type 0} (escapes : S → Bool) where
  -- whether a text is shown as it is: where it is marked safe, or nothing is escaped
  abbrev pub is_shown_plain : S → MarkedText → Bool
  is_shown_plain state t = t.safe || not (escapes state)

  -- shown as it is the text is lent, and escaped it is a text of its own
  abbrev pub Renders : {Z : Type 0} → (S → List ℕ → List ℕ) → S → MarkedText → CowStr Z → Type 0
  Renders escaped state t shown =
      (is_shown_plain state t ≡ true → (¬ IsOwnedStr shown) × (cow_str_bytes shown ≡ t.spelled))
      × (is_shown_plain state t ≡ false → IsOwnedStr shown
      × (cow_str_bytes shown ≡ escaped state t.spelled))

  -- only what is escaped is refused, with an error of the escaping
  abbrev pub RendersNot : (S → List ℕ → Error → Type 0) → S → MarkedText → Error → Type 0
  RendersNot refuses state t e = (is_shown_plain state t ≡ false) × refuses state t.spelled e
