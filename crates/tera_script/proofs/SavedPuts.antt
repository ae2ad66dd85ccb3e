-- The pieces of a line that sets a name, put one after another.
use Rattle.std.proofs.Common.{◌≡◌, ℕ, Bool, List, [], ◌++◌, refl, sym, append_assoc}
use Rattle.std.specs.Prelude.{codes}
use Rattle.tera_meaning.specs.Form.{Form}
use Rattle.tera_report.proofs.PutLaws.{Joins, SoFar, more_so_far, none_so_far}
use Rattle.tera_script.specs.Saved.{set_line}
use Rattle.tera_script.specs.Written.{literal_of}

module _ (ascii : Bool) (name : List ℕ) (value : Form) where
  abbrev pub whole : List ℕ
  whole = set_line ascii (name, value) ++ codes "\n"

  -- what follows the word, the name, and the gap
  abbrev pub behind_word : List ℕ
  behind_word = (name ++ (codes " " ++ literal_of ascii value)) ++ codes "\n"

  abbrev pub behind_name : List ℕ
  behind_name = codes " " ++ (literal_of ascii value ++ codes "\n")

  abbrev pub behind_gap : List ℕ
  behind_gap = literal_of ascii value ++ codes "\n"

  pub name_first : name ++ behind_name ≡ behind_word
  name_first = sym (append_assoc name (codes " " ++ literal_of ascii value) (codes "\n"))

module _ {S : Type 0} (takes : S → List ℕ → S → Type 0) (nothing : (s : S) → takes s [] s) (joins : Joins takes) (ascii : Bool) (name : List ℕ)
    (value : Form) where
  pub word_put : (old one : S) → takes old (codes "set ") one → SoFar takes old (whole ascii name value) (behind_word ascii name value) one
  word_put old one first =
      more_so_far takes joins (codes "set ") (behind_word ascii name value) (none_so_far takes old (whole ascii name value) (nothing old)) refl first

  pub name_put : (old one two : S) → takes old (codes "set ") one → takes one name two
      → SoFar takes old (whole ascii name value) (behind_name ascii name value) two
  name_put old one two first second =
      more_so_far takes joins name (behind_name ascii name value) (word_put old one first) (name_first ascii name value) second

  pub gap_put : (old one two three : S) → takes old (codes "set ") one → takes one name two → takes two (codes " ") three
      → SoFar takes old (whole ascii name value) (behind_gap ascii name value) three
  gap_put old one two three first second third =
      more_so_far takes joins (codes " ") (behind_gap ascii name value) (name_put old one two first second) refl third

  pub literal_put : (old one two three four : S) → takes old (codes "set ") one → takes one name two → takes two (codes " ") three
      → takes three (literal_of ascii value) four → SoFar takes old (whole ascii name value) (codes "\n") four
  literal_put old one two three four first second third fourth =
      more_so_far takes joins (literal_of ascii value) (codes "\n") (gap_put old one two three first second third) refl fourth
