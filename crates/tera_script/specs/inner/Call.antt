-- What is told of a word, and the request that is made.
use Rattle.std.specs.Prelude.{◌≡◌, ℕ, List, [], ◌∷◌, length, Option, Some, None}
use Rattle.std.specs.Option.{option_map}
use Rattle.tera_meaning.specs.Request.{Command, Request}
use Rattle.tera_script.specs.Verb.{Given, Making, of_name, of_names, of_text, of_bounds, of_type}
use Rattle.tera_script.specs.Verb.{of_literal, of_map, shape_of, Row, row_of, word_of}
use Rattle.tera_script.specs.declared.verb.Known.{Known}
use Rattle.tera_script.specs.declared.verb.Shape.{Shape}
use Rattle.tera_script.specs.declared.verb.Shape.TheVariants as shape
use Rattle.tera_script.specs.declared.verb.Verb.{Verb}

-- what is known of a verb is what its row says
abbrev pub IsKnown : Known → Type 0
IsKnown known = (shape_of (row_of known.verb).making ≡ known.shape)
    × ((row_of known.verb).keeps ≡ known.keeps)

-- what is known of a verb is what its row says, and its operands are of this shape
pub record IsOfShape (known : Known) (shape : Shape) : Type 0 where
  pub is : IsKnown known
  pub shaped : known.shape ≡ shape

-- the word has this length, and begins with these two bytes
abbrev pub IsLike : List ℕ → ℕ → ℕ → ℕ → Type 0
IsLike [] len first second = ⊥
IsLike (b ∷ []) len first second = ⊥
IsLike (b ∷ c ∷ rest) len first second = (b ≡ first) × (c ≡ second)
    × (length (b ∷ c ∷ rest) ≡ len)

-- what a look-up of a word answers: the verb of that word, or nothing where it is no verb's
abbrev pub IsVerbOf : List ℕ → Option Known → Type 0
IsVerbOf word (Some known) = (word_of known.verb ≡ word) × IsKnown known
IsVerbOf word None = (verb : Verb) → ¬ (word_of verb ≡ word)

-- the request that is made of operands, if they are of its shape
abbrev pub request_in : Making → (shape : Shape) → Given shape → Option Request
request_in (of_name f) shape.Name given = Some (f given)
request_in (of_names f) shape.Names given = Some (f given.0 given.1)
request_in (of_text f) shape.Text given = Some (f given.0 given.1)
request_in (of_bounds f) shape.Bounds given = Some (f given.0 given.1)
request_in (of_type f) shape.Type given = Some (f given.0 given.1)
request_in (of_literal f) shape.Literal given = Some (f given.0 given.1)
request_in (of_map f) shape.Map given = Some (f given)
request_in making shape given = None

-- a request with a name for what is found
abbrev pub with_into : Option Request → Option (List ℕ) → Option Command
with_into request into = option_map (λ r. record { request = r; into = into }) request
