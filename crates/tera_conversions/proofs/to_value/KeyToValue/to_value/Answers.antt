use Rattle.tera_conversions.proofs.GivenLaws.{refused_where}
use Rattle.tera_conversions.proofs.to_value.KeyToValue.to_value.Goals as goal

pub returns-clause-err : goal.returns-clause-err
returns-clause-err c = refused_where _ _ _ c.as_value.ensures.succeeds c.as_value.ensures.err
