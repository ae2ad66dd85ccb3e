use Rattle.tera_meaning.proofs.ApartLemmas.{alike_exactly}
use Rattle.tera_meaning.proofs.alike.states_answer_alike_where_they_mean_the_same.Goals as goal

pub returns : goal.returns
returns c = alike_exactly
