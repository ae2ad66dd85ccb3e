-- By the turns from each place on.
use Rattle.tera_page.proofs.Turns.{turn_of, turns_count}
use Rattle.tera_page.proofs.laws.turns_are_those_of_the_parts.Goals as goal

pub returns : goal.returns
returns c = record {
  many = turns_count;
  each = turn_of;
}
