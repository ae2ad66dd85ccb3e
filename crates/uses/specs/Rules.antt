-- What a rule leaves.
use Rattle.std.specs.Prelude.{Result}
use Rattle.std.specs.FinMap.{insert}
use Rattle.std.specs.String.{string_bytes}
use Rattle.tera.specs.Arithmetic.{calculated, each_ok}
use Rattle.tera.specs.Refusal.{Refusal, plus}
use Rattle.tera.specs.State.{State, form_at}
use Rattle.uses.specs.declared.rules.Rule.{Rule}

-- the names, with the sum under that of the rule; or the refusal of the sum
abbrev pub summed : State → Rule → Result State Refusal
summed state rule = each_ok (insert state (string_bytes rule.into))
    (calculated plus (form_at state (string_bytes rule.left))
    (form_at state (string_bytes rule.right)))
