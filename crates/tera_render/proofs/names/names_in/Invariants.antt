use Rattle.tera_render.proofs.NameLemmas.{NameRest}
use Rattle.tera_render.proofs.names.names_in.Given as goal

abbrev pub invariant-loop-key : goal.invariant-loop-key
invariant-loop-key l = NameRest l.fn.all l.key-iterator l.names
