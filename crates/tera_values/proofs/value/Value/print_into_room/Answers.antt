use Rattle.tera_meaning.specs.Meaning.{layout}
use Rattle.tera_values.proofs.PrintLemmas.{decided_where_exact}
use Rattle.tera_values.proofs.value.Value.print_into_room.Goals as goal

pub returns-clause-decided : goal.returns-clause-decided
returns-clause-decided c exact = decided_where_exact (layout c.args.self.now) c.args.room.now c.print_to.new.out c.print_to.result c.print_to.ensures exact
