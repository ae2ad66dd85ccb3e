use Rattle.std.proofs.Common.{◌≡◌, ◌∙◌, ℕ, codes, sym, refl, List, Ok, Some}
use Rattle.std.specs.FinMap.{empty, get, gets, insert}
use Rattle.std.specs.Option.{option_or}
use Rattle.tera_meaning.specs.Answer
use Rattle.tera_meaning.specs.Form.{Form}
use Rattle.tera_meaning.specs.Outcome.{Outcome}
use Rattle.tera_meaning.specs.Rows.{normal}
use Rattle.tera_meaning.specs.State.{State, extended}
use Rattle.tera_meaning.proofs.ExtendLaws.{get_extended}
use Rattle.tera_meaning.proofs.scripts.what_is_taken_over_replaces.Goals as goal

abbrev held : State
held = insert (insert empty (codes "a") (normal (codes "1"))) (codes "b") (normal (codes "2"))

abbrev source : State
source = insert (insert empty (codes "b") (normal (codes "3"))) (codes "d") (normal (codes "4"))

told : (name : List ℕ) (value : Form) → option_or (get source name) (get held name) ≡ Some value
    → ◌≡◌ {A = Outcome} (Ok (Answer.found (Some value))) (Ok (Answer.found (get (extended held source) name)))
told name value is = λ i. Ok (Answer.found (sym (get_extended held source name ∙ is) i))

pub returns : goal.returns
returns c =
    let first = told (codes "a") (normal (codes "1")) (simp gets refl) in
    let second = told (codes "b") (normal (codes "3")) (simp gets refl) in
    let third = told (codes "d") (normal (codes "4")) (simp gets refl) in
    (refl, (refl, (refl, (first, (second, (third, tt))))))
