use Rattle.std.proofs.Common.{◌≡◌, take, fold}
use Rattle.tera_values.specs.Hashing.{take_eight}
use Rattle.tera_values.proofs.hash_state.KeyHasherHasher.write.Given as goal

abbrev pub invariant-loop-word : goal.invariant-loop-word
invariant-loop-word l = l.self ≡ fold take_eight l.initial.self (take l.word-index l.words)
