-- The elements of a path are the only ones, and which of them are places.
use Rattle.std.specs.Prelude.{◌≡◌, ℕ, List}
use Rattle.tera_report.proofs.PartLaws.{these_are_parts, only_these_are_parts}
use Rattle.tera_meaning.specs.Path.{AreElements, elements_of}
use Rattle.std.proofs.Common.{rules}

pub these_are_elements : (path : List ℕ) → AreElements path (elements_of path)
these_are_elements path = search (rules, these_are_parts)

pub only_these_are_elements : (path : List ℕ) (es : List (List ℕ)) → AreElements path es → es ≡ elements_of path
only_these_are_elements path es are = search (rules, only_these_are_parts)

-- ---- places

pub ruleset laws = (these_are_elements, only_these_are_elements)
