-- What is asked of one value.
use Rattle.std.specs.Prelude.{◌≡◌, ◌≢◌, ⊤, ℕ, List, [], Option, Ok, is_some}
use Rattle.tera_report.specs.Escaping.{Spells}
use Rattle.tera_meaning.specs.Answer
use Rattle.tera_meaning.specs.Fields
use Rattle.tera_meaning.specs.Form.{Form}
use Rattle.tera_meaning.specs.Kind.{kind_in}
use Rattle.tera_meaning.specs.Meaning.{Layout, layout, meaning}
use Rattle.tera_meaning.specs.Outcome.{Outcome}
use Rattle.tera_meaning.specs.Printed.{IsExact, PrintsNothing}
use Rattle.tera_meaning.specs.Quoted.{Prints}
use Rattle.tera_meaning.specs.Read.{safe_in, size_in, truthy_in}
use Rattle.tera_meaning.specs.State.{read}

pub data Question : Type 0 where
  has : Question
  truthy : Question
  is_safe : Question
  len : Question
  kind : Question
  print : Question
  escape : Question
  fields : Question
  walk : Question

-- what is answered of what a name holds, which reads as undefined where it holds nothing. What is
-- printed is one text alone where the layout is exact. A walk tells what the keys of a map print,
-- along its pairs
abbrev pub IsAnswered : Question → Option Form → Outcome → Type 0
IsAnswered has held outcome = outcome ≡ Ok (Answer.truth (is_some held))
IsAnswered truthy held outcome = outcome ≡ Ok (Answer.truth (truthy_in (meaning (read held))))
IsAnswered is_safe held outcome = outcome ≡ Ok (Answer.truth (safe_in (read held)))
IsAnswered len held outcome = outcome ≡ Ok (Answer.size (size_in (meaning (read held))))
IsAnswered kind held outcome = outcome ≡ Ok (Answer.kind (kind_in (read held)))
IsAnswered print held outcome =
    (text : List ℕ) × Prints (layout (read held)) text × (outcome ≡ Ok (Answer.text text))
IsAnswered escape held outcome =
    (text word : List ℕ) × Prints (layout (read held)) text × Spells word text
    × (outcome ≡ Ok (Answer.text word))
IsAnswered fields held outcome = outcome ≡ Ok (Answer.texts (Fields.fields (read held)))
IsAnswered walk held outcome = outcome ≡ Ok (Answer.walked (Fields.shown_in (read held)))

-- the answer is one: what is printed for it, if anything, is exact
abbrev pub IsFixedAnswer : Question → Layout → Type 0
IsFixedAnswer has x = ⊤
IsFixedAnswer truthy x = ⊤
IsFixedAnswer is_safe x = ⊤
IsFixedAnswer len x = ⊤
IsFixedAnswer kind x = ⊤
IsFixedAnswer print x = IsExact x
IsFixedAnswer escape x = IsExact x
IsFixedAnswer fields x = ⊤
IsFixedAnswer walk x = ⊤

-- of two values of one meaning, laid out so, the answers are equal: a walk where the layouts are
-- equal, what is printed where they are equal and exact, and not those that read the form
abbrev pub IsSettledAnswer : Question → Layout → Layout → Type 0
IsSettledAnswer is_safe x y = ⊥
IsSettledAnswer kind x y = ⊥
IsSettledAnswer walk x y = x ≡ y
IsSettledAnswer has x y = ⊤
IsSettledAnswer truthy x y = ⊤
IsSettledAnswer len x y = ⊤
IsSettledAnswer print x y = (x ≡ y) × IsExact x
IsSettledAnswer escape x y = (x ≡ y) × IsExact x
IsSettledAnswer fields x y = ⊤

-- the answer of a value takes memory: of texts, where there are any
abbrev pub TakesMemory : Question → Form → Type 0
TakesMemory has value = ⊥
TakesMemory truthy value = ⊥
TakesMemory is_safe value = ⊥
TakesMemory len value = ⊥
TakesMemory kind value = ⊥
TakesMemory print value = ¬ PrintsNothing (layout value)
TakesMemory escape value = ¬ PrintsNothing (layout value)
TakesMemory fields value = Fields.fields value ≢ []
TakesMemory walk value = Fields.shown_in value ≢ []
