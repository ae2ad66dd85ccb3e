use Rattle.tera_script.proofs.Literals as literals
use Rattle.tera_script.proofs.laws.one_literal.Goals as goal

pub returns : goal.returns
returns c = literals.one_value
