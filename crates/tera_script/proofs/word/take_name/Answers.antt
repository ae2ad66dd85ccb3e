use Rattle.std.proofs.Common.{◌∷◌, arith}
use Rattle.tera_script.specs.Word.{is_name_byte}
use Rattle.tera_script.specs.Readers.{name_at}
use Rattle.tera_script.proofs.Fronts.{past_cut}
use Rattle.tera_script.proofs.Names.{start_goes_on}
use Rattle.tera_script.proofs.word.take_name.Goals as goal

pub overflow_sub-bytes : goal.overflow_sub-bytes
overflow_sub-bytes c = grind (arith, start_goes_on, past_cut is_name_byte (c.in_ok-first.first.now ∷ c.in_ok-first.others.now))

pub returns : goal.returns
unfolding name_at
returns c = grind (arith, start_goes_on, past_cut is_name_byte (c.in_ok-first.first.now ∷ c.in_ok-first.others.now))
