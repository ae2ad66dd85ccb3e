use Rattle.tera_script.proofs.Places.{keys_distinct, places_stay, last_value, first_key}
use Rattle.tera_script.proofs.laws.equal_keys_keep_the_first_key_and_the_last_value.Goals as goal

pub returns : goal.returns
returns c = record { distinct = keys_distinct; places = places_stay; values = last_value; keys = first_key }
