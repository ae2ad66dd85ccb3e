use Rattle.tera_script.proofs.Written.{literal_spelled, one_form}
use Rattle.tera_script.proofs.WrittenAgain.{spelled_again}
use Rattle.tera_script.proofs.write_laws.literals_are_read_back.Goals as goal

pub returns : goal.returns
returns c = record { spelled = literal_spelled; again = spelled_again; one = one_form }
