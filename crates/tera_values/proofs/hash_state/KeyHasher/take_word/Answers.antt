use Rattle.tera_values.specs.Hashing.{take_word}
use Rattle.tera_values.proofs.hash_state.KeyHasher.take_word.Goals as goal

pub returns : goal.returns
unfolding take_word
returns c = simp c.round.ensures
