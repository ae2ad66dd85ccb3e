use Rattle.std.proofs.Common.{sym, inl}
use Rattle.std.specs.Option.{option_map}
use Rattle.std.proofs.lemmas.Result.{IfOk-weaker}
use Rattle.tera_script.specs.Readers.{with_rest}
use Rattle.tera_script.proofs.Bare.{all_past_gap}
use Rattle.tera_script.proofs.Values.{no_gap, value_at}
use Rattle.tera_script.proofs.operand.take_value.Goals as goal

pub returns-in_default-clause-value : goal.returns-in_default-clause-value
returns-in_default-clause-value c = no_gap (sym c.in_default.ensures)

pub returns-clause-value : goal.returns-clause-value
returns-clause-value c =
    let at = value_at c.args.bytes.now (sym c.in-Some.ensures) in
    IfOk-weaker c.take_literal.result _ _ (λ answer. at (option_map with_rest answer)) c.take_literal.ensures.literal

pub returns-clause-free : goal.returns-clause-free
returns-clause-free c = λ bare. c.take_literal.ensures.free (inl (all_past_gap _ c.args.bytes.now c.in-Some.ensures bare))
