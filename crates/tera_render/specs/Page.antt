-- The page that a template and a document give, and why they give none.
use Rattle.std.specs.Prelude.{◌≡◌, ◌⊎◌, ⊤, ℕ, List, Option, Some, None, Result, Ok, Err, String}
use Rattle.std.specs.FinMap.{empty}
use Rattle.std.specs.String.{string_bytes}
use Rattle.std.specs.declared.alloc.Global.{Global}
use Rattle.tera.specs.State.{State}
use Rattle.tera_page.specs.Failures.{Reports}
use Rattle.tera_page.specs.Grammar.{Spells}
use Rattle.tera_page.specs.Reading.{IsSyntaxError}
use Rattle.tera_page.specs.Rendering.{IsPageOf, all_pieces}
use Rattle.tera_page.specs.Template.{Parts}
use Rattle.tera_render.specs.Names.{AreNames, RefusesNames}
use Rattle.tera_render.specs.declared.fault.Fault.{Fault}
use Rattle.tera_render.specs.declared.fault.Fault.TheVariants.{NoMemory, NoPage, Refused}
use Rattle.tera_render.specs.declared.fault.Fault.TheVariants.{Unread as unread}
use Rattle.tera_render.specs.declared.fault.Unread.{Unread}
use Rattle.tera_render.specs.declared.fault.Unread.TheVariants.{Failed}

-- the text spells a template, whose page over the names this is
abbrev pub IsPage : List ℕ → State → List ℕ → Type 0
IsPage text names page =
    (template : Parts) × Spells template text × IsPageOf (all_pieces template names) page

-- why a text of that name, over the names, has no page
abbrev pub IsFaultOf : List ℕ → List ℕ → State → Fault → Type 0
IsFaultOf name text names (unread of) = ⊥
IsFaultOf name text names NoMemory = ⊤
IsFaultOf name text names (NoPage e) =
    IsSyntaxError name text e
    ⊎ ((template : Parts) × Spells template text × Reports name text (all_pieces template names) e)
IsFaultOf name text names (Refused of e) = ⊥

-- what names give where they are read
abbrev pub Gave : Type 1
Gave = List ℕ → Result (String Global) Unread → Type 0

-- why the text of a name is not read
abbrev pub GivesNoText : Gave → List ℕ → Fault → Type 0
GivesNoText gave name (unread of) = (of.now ≡ name) × gave name (Err Failed)
GivesNoText gave name NoMemory = ⊤
GivesNoText gave name (NoPage e) = ⊥
GivesNoText gave name (Refused of e) = ⊥

-- the names of the document of a name, or no names
abbrev pub GivesNames : Gave → Option (List ℕ) → State → Type 0
GivesNames gave None names = names ≡ empty
GivesNames gave (Some name) names =
    (text : String Global) × gave name (Ok text) × AreNames (string_bytes text) names

abbrev pub GivesNoNames : Gave → Option (List ℕ) → Fault → Type 0
GivesNoNames gave None fault = ⊥
GivesNoNames gave (Some name) (unread of) = GivesNoText gave name (unread of)
GivesNoNames gave (Some name) NoMemory = ⊤
GivesNoNames gave (Some name) (NoPage e) = ⊥
GivesNoNames gave (Some name) (Refused of e) =
    (of.now ≡ name) × (text : String Global) × gave name (Ok text)
    × RefusesNames (string_bytes text) e

-- the page of the template of a name, over the names of a document
abbrev pub GivesPage : Gave → List ℕ → Option (List ℕ) → List ℕ → Type 0
GivesPage gave name document page =
    (text : String Global) × (names : State) × gave name (Ok text) × GivesNames gave document names
    × IsPage (string_bytes text) names page

abbrev pub GivesNoPage : Gave → List ℕ → Option (List ℕ) → Fault → Type 0
GivesNoPage gave name document fault =
    GivesNoText gave name fault ⊎ GivesNoNames gave document fault
    ⊎ ((text : String Global) × (names : State) × gave name (Ok text)
    × GivesNames gave document names × IsFaultOf name (string_bytes text) names fault)
