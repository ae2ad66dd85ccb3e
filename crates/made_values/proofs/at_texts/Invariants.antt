use Rattle.std.proofs.Common.{drop, map, List, []}
use Rattle.tera_meaning.specs.Form.{Form}
use Rattle.tera_meaning.specs.KeyMeaning.{KeyForm}
use Rattle.made_values.specs.Made.{Inserted, at_text}
use Rattle.made_values.proofs.at_texts.Given as goal

-- what is made of the pairs so far and of those that are left is made of all
abbrev pub invariant-loop-key : goal.invariant-loop-key
invariant-loop-key l = (made : List (KeyForm × Form))
    → Inserted l.map (map (λ p. at_text p.0.now p.1) (drop l.key-index l.pairs)) made
    → Inserted [] (map (λ p. at_text p.0.now p.1) l.fn.pairs) made
