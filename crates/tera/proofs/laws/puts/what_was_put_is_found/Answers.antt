-- By the lemmas on pairs under any total order.
use Rattle.tera.proofs.ManyPutLaws.{found_put_all, last_found}
use Rattle.tera_meaning.proofs.KeyLaws.{form_total}
use Rattle.tera_meaning.specs.Pairs.{key_form_order}
use Rattle.tera.proofs.laws.puts.what_was_put_is_found.Goals as goal

pub returns-clause-last : goal.returns-clause-last
returns-clause-last c = last_found key_form_order form_total

pub returns-clause-distinct : goal.returns-clause-distinct
returns-clause-distinct c = found_put_all key_form_order form_total
