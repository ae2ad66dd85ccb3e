-- By the lemmas on pairs under any total order.
use Rattle.tera.proofs.ManyPutLaws.{keys_of_put_all, put_as_given, put_behind}
use Rattle.tera_meaning.proofs.KeyLaws.{form_total}
use Rattle.tera_meaning.specs.Pairs.{key_form_order}
use Rattle.tera.proofs.laws.puts.new_keys_are_put_last.Goals as goal

pub returns-clause-keys : goal.returns-clause-keys
returns-clause-keys c = keys_of_put_all key_form_order form_total

pub returns-clause-itself : goal.returns-clause-itself
returns-clause-itself c = put_as_given key_form_order form_total

pub returns-clause-behind : goal.returns-clause-behind
returns-clause-behind c = put_behind key_form_order form_total
