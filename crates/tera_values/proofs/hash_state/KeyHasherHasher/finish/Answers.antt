use Rattle.tera_values.specs.Hashing.{finish}
use Rattle.tera_values.proofs.hash_state.KeyHasherHasher.finish.Goals as goal

pub returns : goal.returns
unfolding finish
returns c = simp (c.round-3.ensures, c.round-2.ensures, c.round.ensures)
