use Rattle.std.proofs.Common.{rules}
use Rattle.std.specs.Fmt.{digits, debug_escape}
use Rattle.tera_meaning.proofs.rows.equal_maps_may_stand_in_two_orders.Goals as goal

pub returns : goal.returns
unfolding digits debug_escape
returns c = search rules
