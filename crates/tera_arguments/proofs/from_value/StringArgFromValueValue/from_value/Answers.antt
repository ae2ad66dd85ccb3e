use Rattle.tera_conversions.proofs.GivenLaws.{refused_where}
use Rattle.tera_arguments.proofs.from_value.StringArgFromValueValue.from_value.Goals as goal

pub returns-clause-err : goal.returns-clause-err
returns-clause-err c = refused_where _ _ _ c.to_text.ensures.free c.to_text.ensures.err
