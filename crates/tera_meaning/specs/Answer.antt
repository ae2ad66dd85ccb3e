-- What a call answers where nothing is refused.
use Rattle.std.specs.Prelude.{ℕ, Bool, List, Option}
use Rattle.std.specs.declared.cmp.Ordering.{Ordering}
use Rattle.tera_meaning.specs.Kind.{Kind}

-- V stands at a value that is found
pub data AnswerOf (V : Type 0) : Type 0 where
  done : AnswerOf V
  truth : Bool → AnswerOf V
  order : Option Ordering → AnswerOf V
  found : Option V → AnswerOf V
  size : Option ℕ → AnswerOf V
  kind : Kind → AnswerOf V
  text : List ℕ → AnswerOf V
  texts : List (List ℕ) → AnswerOf V
  walked : List (List ℕ) → AnswerOf V
