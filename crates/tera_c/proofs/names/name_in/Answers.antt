-- What is no UTF-8 is no name.
use Rattle.tera_c.proofs.NameLemmas.{is_no_name}
use Rattle.tera_c.proofs.names.name_in.Goals as goal

pub returns-in-Err : goal.returns-in-Err
returns-in-Err c = is_no_name c.args.bytes.now c.in-Err.ensures.cases.0
