use denote.Text.{Utf8}
use denote.Shadow.{shadow}
use Rattle.std.proofs.Common.{◌≡◌, ◌≤◌, ◌⊎◌, ◌+◌, ◌*◌, [], length}
use Rattle.tera_page.proofs.syntax.+read.Given as goal
use Rattle.tera_page.specs.Grammar.{IsPlain, SpellsUpTo}
use Rattle.tera_page.specs.View.{parts_of}

abbrev pub decreases-read_if : goal.decreases-read_if
decreases-read_if l = 8 * l.levels + 1

abbrev pub decreases-read_for : goal.decreases-read_for
decreases-read_for l = 8 * l.levels + 1

abbrev pub decreases-read_node : goal.decreases-read_node
decreases-read_node l = 8 * l.levels + 3

abbrev pub decreases-read_nodes : goal.decreases-read_nodes
decreases-read_nodes l = 8 * l.levels + 4

abbrev pub decreases-read_tag : goal.decreases-read_tag
decreases-read_tag l = 8 * l.levels + 2

abbrev pub decreases-read_end : goal.decreases-read_end
decreases-read_end l = 8 * l.levels + 5

abbrev pub decreases-read_else : goal.decreases-read_else
decreases-read_else l = 8 * l.levels + 6

-- what is read so far spells the parts so far; of a text in which nothing begins it is nothing or all
abbrev pub invariant-read_nodes-parts : goal.invariant-read_nodes-parts
invariant-read_nodes-parts l =
    shadow (Utf8 l.rest) × SpellsUpTo (parts_of l.nodes.items) l.text l.rest × (length l.rest ≤ length l.text)
    × (IsPlain l.text → (l.rest ≡ []) ⊎ (l.rest ≡ l.text))

abbrev pub decreases-read_nodes-parts : goal.decreases-read_nodes-parts
decreases-read_nodes-parts l = length l.rest
