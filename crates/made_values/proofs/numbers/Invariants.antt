use Rattle.std.proofs.Common.{drop, List, []}
use Rattle.tera_meaning.specs.Form.{Form}
use Rattle.made_values.specs.Made.{Appended, numbered}
use Rattle.made_values.proofs.numbers.Given as goal

-- what is made of the items so far and the numbers that are left is made of all
abbrev pub invariant-loop-number : goal.invariant-loop-number
invariant-loop-number l = (made : List Form)
    → Appended l.items.items (numbered (drop l.number-index l.of)) made → Appended [] (numbered l.fn.of) made
