-- Which symbols spell what stands alone, and the arguments of a filter.
use Rattle.std.specs.Prelude.{◌≡◌, ◌≢◌, ⊤, ℕ, pos, true, false, IsTrue, List, [], ◌∷◌, Option}
use Rattle.std.specs.Prelude.{None, Some, Ok}
use Rattle.tera.specs.Arithmetic.{negated}
use Rattle.tera.specs.Form.{Form}
use Rattle.tera.specs.Integer.{u64}
use Rattle.tera.specs.Path.{place}
use Rattle.tera.specs.Tree as form
use Rattle.tera_filters.specs.Words.{word_of}
use Rattle.tera_filters.specs.declared.filter.Filter.{Filter}
use Rattle.tera_page.specs.Symbols as symbol
use Rattle.tera_page.specs.Symbols.{Sign, Symbol, sign, quoted, word}
use Rattle.tera_page.specs.Template.{Argument, Operand, Place, constant, found_at}
use Rattle.tera_page.specs.Words.{IsPlace, is_name, place_text}

-- the first symbol is no word, or there is none
abbrev pub BeginsNoWord : List Symbol → Type 0
BeginsNoWord [] = ⊤
BeginsNoWord (word w ∷ ss) = ⊥
BeginsNoWord (_ ∷ ss) = ⊤

-- the first symbol is a word, and the name of no filter
abbrev pub NamesNone : List Symbol → Type 0
NamesNone (word w ∷ ss) = (filter : Filter) → w ≢ word_of filter
NamesNone _ = ⊥

-- what a word of the language is the value of
abbrev pub constant_of : Sign → Option Form
constant_of symbol.true_ = Some (form.truth true)
constant_of symbol.false_ = Some (form.truth false)
constant_of symbol.none = Some form.none
constant_of _ = None

-- one symbol is the operand
pub data IsOperand : Operand → Symbol → Type 0 where
  number : (n : ℕ) (w : List ℕ) → place w ≡ Some n
      → IsOperand (constant (form.number (record { kind = u64; value = pos n }))) (word w)
  text : (t : List ℕ)
      → IsOperand (constant (form.text (record { spelled = t; safe = false }))) (quoted t)
  of_language : (s : Sign) (v : Form) → constant_of s ≡ Some v → IsOperand (constant v) (sign s)
  found : (at : Place) → IsPlace at → IsOperand (found_at at) (word (place_text at))

-- the first symbols are an operand, or a number with `-` before it, and then the rest
pub data IsGiven : Operand → List Symbol → List Symbol → Type 0 where
  as_it_is : (o : Operand) (s : Symbol) (rest : List Symbol) → IsOperand o s
      → IsGiven o (s ∷ rest) rest
  opposite : (v w : Form) (s : Symbol) (rest : List Symbol) → IsOperand (constant v) s
      → negated v ≡ Ok w → IsGiven (constant w) (sign symbol.minus ∷ s ∷ rest) rest

-- they are a name, `=` and what is given
abbrev pub IsArgument : Argument → List Symbol → List Symbol → Type 0
IsArgument a ss rest =
    (value : List Symbol) × IsTrue (is_name a.name)
    × (ss ≡ word a.name ∷ sign symbol.gives ∷ value) × IsGiven a.value value rest

-- they are a comma and an argument, maybe several times, and then a closing parenthesis
abbrev pub AreMore : List Argument → List Symbol → List Symbol → Type 0
AreMore [] ss rest = ss ≡ sign symbol.closes ∷ rest
AreMore (a ∷ given) ss rest =
    (next left : List Symbol) × (ss ≡ sign symbol.comma ∷ next) × IsArgument a next left
    × AreMore given left rest

-- they are arguments with commas between them, and then a closing parenthesis
abbrev pub AreListed : List Argument → List Symbol → List Symbol → Type 0
AreListed [] ss rest = ss ≡ sign symbol.closes ∷ rest
AreListed (a ∷ given) ss rest =
    (left : List Symbol) × IsArgument a ss left × AreMore given left rest

-- they are arguments in parentheses, or there are none
pub data AreArguments : List Argument → List Symbol → List Symbol → Type 0 where
  left_out : (rest : List Symbol) → AreArguments [] rest rest
  in_parentheses : (given : List Argument) (ss rest : List Symbol) → AreListed given ss rest
      → AreArguments given (sign symbol.opens ∷ ss) rest
