-- What a rule keeps.
use Rattle.std.specs.Prelude.{◌≡◌, ℕ, List, IsTrue, Result, Ok, Err, is_some}
use Rattle.std.specs.FinMap.{get, insert}
use Rattle.std.specs.String.{string_bytes}
use Rattle.std.proofs.Common.{subst}
use Rattle.tera.proofs.SteppedLaws.{name_stays}
use Rattle.tera.specs.Arithmetic.{calculated, each_ok}
use Rattle.tera.specs.Form.{Form}
use Rattle.tera.specs.Refusal.{Refusal, plus}
use Rattle.tera.specs.State.{State, form_at}
use Rattle.uses.specs.Rules.{summed}
use Rattle.uses.specs.declared.rules.Rule.{Rule}

-- names that are held stay held over a rule
inserted_keeps : (s : State) (into : List ℕ) (sum : Result Form Refusal) (t : State) (name : List ℕ) → each_ok (insert s into) sum ≡ Ok t
    → IsTrue (is_some (get s name)) → IsTrue (is_some (get t name))
inserted_keeps s into (Ok value) t name is held =
    let same : insert s into value ≡ t = cc in
    subst (λ state. IsTrue (is_some (get state name))) same (name_stays s into value name held)
inserted_keeps s into (Err refusal) t name is held = absurd (cc)

pub summed_keeps : (s : State) (rule : Rule) (t : State) (name : List ℕ) → summed s rule ≡ Ok t → IsTrue (is_some (get s name))
    → IsTrue (is_some (get t name))
summed_keeps s rule t name is held =
    inserted_keeps s (string_bytes rule.into) (calculated plus (form_at s (string_bytes rule.left)) (form_at s (string_bytes rule.right))) t name is held
