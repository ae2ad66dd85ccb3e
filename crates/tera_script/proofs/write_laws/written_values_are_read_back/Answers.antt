use Rattle.tera_script.proofs.Written.{literal_spelled}
use Rattle.tera_script.proofs.WrittenLines.{line_says}
use Rattle.tera_script.proofs.write_laws.written_values_are_read_back.Goals as goal

pub returns-clause-spelled : goal.returns-clause-spelled
returns-clause-spelled c = λ ascii. literal_spelled ascii c.args.value.now c.is_well_made.ensures

pub returns-clause-said : goal.returns-clause-said
returns-clause-said c = λ ascii name named deep. line_says ascii name c.args.value.now named c.is_well_made.ensures deep
