-- Which value a document is, and what is answered of a text that is read.
use Rattle.std.specs.Prelude.{◌≡◌, ℕ, false, List, [], ◌∷◌, Option, Some, None, Result, Ok, Err}
use Rattle.std.specs.Prelude.{codes}
use Rattle.json.specs.Json.{Json, null, boolean, string, Items, no_items, item, Members}
use Rattle.json.specs.Json.{no_members, member, document}
use Rattle.json.specs.Json as json
use Rattle.tera_json.specs.Misfits.{Misfit, misfits, misfit_text}
use Rattle.tera_json.specs.Numbers.{integer_in}
use Rattle.tera_meaning.specs.Form.{Form}
use Rattle.tera_meaning.specs.Integer.{Integer}
use Rattle.tera_meaning.specs.KeyMeaning.{KeyForm, text_key, owned}
use Rattle.tera_meaning.specs.Pairs.{key_form_order, put_all}
use Rattle.tera_meaning.specs.Tree.{none, truth, number, text, array, object, items}
use Rattle.tera_meaning.specs.Tree as tree
use Rattle.tera_report.specs.Refusal.{Refusal, message}

-- the document is the value: no text is marked safe, and of equal names the first has its place and
-- the last its value
abbrev mutual
  pub Documents : Json → Form → Type 0
  Documents null v = v ≡ none
  Documents (boolean b) v = v ≡ truth b
  Documents (json.number digits) v =
      (n : Integer) × (integer_in digits ≡ Some n) × (v ≡ number n)
  Documents (string s) v = v ≡ text (record { spelled = s; safe = false })
  Documents (json.array js) v = (xs : List Form) × DocumentItems js xs × (v ≡ array (items xs))
  Documents (json.object ms) v = (written : List (KeyForm × Form)) × DocumentMembers ms written
      × (v ≡ object (tree.members (put_all key_form_order [] written)))

  pub DocumentItems : Items → List Form → Type 0
  DocumentItems no_items xs = xs ≡ []
  DocumentItems (item j js) all = (x : Form) × (xs : List Form) × Documents j x
      × DocumentItems js xs × (all ≡ x ∷ xs)

  -- the members as they stand, each name a text that its key owns
  pub DocumentMembers : Members → List (KeyForm × Form) → Type 0
  DocumentMembers no_members written = written ≡ []
  DocumentMembers (member name j ms) all =
      (x : Form) × (written : List (KeyForm × Form)) × Documents j x × DocumentMembers ms written
      × (all ≡ (text_key (owned name), x) ∷ written)

-- how deep arrays and maps may nest
abbrev pub most_levels : ℕ
most_levels = 64

-- nothing, or the refusal of what does not fit first
abbrev pub refusal_of : List Misfit → Result (Unit {0}) Refusal
refusal_of [] = Ok tt
refusal_of (m ∷ ms) = Err (message (misfit_text m))

-- what is refused of a text: that it is no document, or what does not fit in it first
abbrev pub refusal_of_read : Option Json → Result (Unit {0}) Refusal
refusal_of_read None = Err (message (codes "The text is not JSON"))
refusal_of_read (Some j) = refusal_of (misfits most_levels j)

abbrev pub read_refusal : List ℕ → Result (Unit {0}) Refusal
read_refusal bytes = refusal_of_read (document bytes)

-- the text is a document that is the value, and in which all fits
abbrev pub IsRead : List ℕ → Form → Type 0
IsRead bytes v = (j : Json) × (document bytes ≡ Some j) × Documents j v
    × (misfits most_levels j ≡ [])
