use Rattle.tera_script.proofs.SavedLines.{each_form, made_again, very_state}
use Rattle.tera_script.proofs.script_laws.scripts_make_their_states.Goals as goal

pub returns : goal.returns
returns c = record { run = made_again; forms = each_form; same = very_state }
