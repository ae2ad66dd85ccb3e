use Rattle.std.proofs.Common.{◌≡◌, ◌+◌, ◌*◌, drop}
use Rattle.tera_json.proofs.Writing.{AreWrittenBut, ArePairsBut}
use Rattle.tera_json.proofs.write.+put_value.Given as goal
use Rattle.tera_meaning.specs.Tree.{items, members}

abbrev pub decreases-put_value : goal.decreases-put_value
decreases-put_value l = 4 * l.levels + 1

abbrev pub decreases-put_named : goal.decreases-put_named
decreases-put_named l = 4 * l.levels + 2

abbrev pub decreases-put_member : goal.decreases-put_member
decreases-put_member l = 4 * l.levels + 3

abbrev pub decreases-put_members : goal.decreases-put_members
decreases-put_members l = 4 * l.levels + 4

abbrev pub decreases-put_items : goal.decreases-put_items
decreases-put_items l = 4 * l.levels + 4

-- the items before are written
abbrev pub invariant-put_items-loop-at : goal.invariant-put_items-loop-at
invariant-put_items-loop-at l =
    AreWrittenBut l.lacking l.levels l.at (items l.all) (items (drop l.at l.all)) l.fn.out.tokens l.out.tokens × (l.out.before ≡ l.fn.out.before)

-- the pairs before are written
abbrev pub invariant-put_members-loop-key : goal.invariant-put_members-loop-key
invariant-put_members-loop-key l =
    ArePairsBut l.lacking l.levels l.all (members l.all) (members l.key-iterator) l.fn.out.tokens l.out.tokens × (l.out.before ≡ l.fn.out.before)
