-- What a page shows of a value.
use Rattle.std.specs.Prelude.{◌≡◌, ℕ, Bool, true, false, List}
use Rattle.tera_meaning.specs.Form.{Form}
use Rattle.tera_meaning.specs.Meaning.{layout}
use Rattle.tera_meaning.specs.Quoted.{Prints}
use Rattle.tera_meaning.specs.Read.{safe_in}
use Rattle.tera_report.specs.Escaping.{Spells}

-- what stands for a text: the text itself where it is safe, and else its spelling
abbrev pub StandsFor : Bool → List ℕ → List ℕ → Type 0
StandsFor true shown text = shown ≡ text
StandsFor false shown text = Spells shown text

-- what stands for what the value prints
abbrev pub ShowsInPage : Form → List ℕ → Type 0
ShowsInPage value shown =
    (text : List ℕ) × Prints (layout value) text × StandsFor (safe_in value) shown text
