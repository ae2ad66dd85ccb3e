use Rattle.std.proofs.Common.{◌+◌, ◌*◌, ◌≡◌, drop}
use Rattle.tera.specs.Growing.{grown_bytes}
use Rattle.tera_page.proofs.Turns.{Goes, Steps}
use Rattle.tera_page.proofs.page.+put.Given as goal
use Rattle.tera_page.specs.Rendering.{all_pieces, named_items, named_pairs, turns}
use Rattle.tera_page.specs.View.{parts_of, state_of, state_with}

-- the parts so far are put
abbrev pub invariant-put_nodes-loop-node : goal.invariant-put_nodes-loop-node
invariant-put_nodes-loop-node l =
    Steps l.nodes (state_with l.scope l.initial.names) l.node-index (state_with l.scope l.names) (grown_bytes l.initial.page) (grown_bytes l.page)

-- the body is put for the items so far
abbrev pub invariant-put_each-loop-at : goal.invariant-put_each-loop-at
invariant-put_each-loop-at l =
    Goes (all_pieces (parts_of l.body)) (turns (state_of l.scope) (named_items l.name l.items)) l.at (grown_bytes l.initial.page)
    (grown_bytes l.page)

-- the body is put for the pairs so far, and the others are left
abbrev pub invariant-put_pairs-loop-key : goal.invariant-put_pairs-loop-key
invariant-put_pairs-loop-key l =
    Goes (all_pieces (parts_of l.body)) (turns (state_of l.scope) (named_pairs l.key_name l.name l.pairs)) l.at
    (grown_bytes l.initial.page) (grown_bytes l.page)
    × (drop l.at l.pairs ≡ l.key-iterator)

abbrev pub decreases-put_node : goal.decreases-put_node
decreases-put_node l = 5 * goal.size-put_node l

abbrev pub decreases-put_nodes : goal.decreases-put_nodes
decreases-put_nodes l = 5 * goal.size-put_nodes l + 1

abbrev pub decreases-put_body : goal.decreases-put_body
decreases-put_body l = 5 * goal.size-put_body l + 2

abbrev pub decreases-put_each : goal.decreases-put_each
decreases-put_each l = 5 * goal.size-put_each l + 3

abbrev pub decreases-put_pairs : goal.decreases-put_pairs
decreases-put_pairs l = 5 * goal.size-put_pairs l + 3

abbrev pub decreases-put_turns : goal.decreases-put_turns
decreases-put_turns l = 5 * goal.size-put_turns l + 4
