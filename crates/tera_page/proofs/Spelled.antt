-- What templates are spelled by, one thing behind the other.
use Rattle.std.specs.Prelude.{◌≡◌, ◌⊎◌, ℕ, true, List, [], ◌∷◌, ◌++◌, codes, Option, None, Some, refl}
use Rattle.std.proofs.Common.{inl, inr, ap, sym, subst, arith, rules}
use Rattle.std.proofs.lemmas.Slice.Eq.{bytes_eq-Decides}
use Rattle.std.specs.Str.{bytes_eq}
use Rattle.std.specs.Borrow.{Bor}
use Rattle.std.specs.Option.{option_map, unwrap_or}
use Rattle.tera_page.proofs.Views.{part-Comment, part-Set, part-Show, part-Text}
use Rattle.tera_page.specs.Expressions.{Writes}
use Rattle.tera_page.specs.Grammar as grammar
use Rattle.tera_page.specs.Grammar.{InTag, IsPlain, IsRun, Marked, Shows, SpellsElse, SpellsPart, SpellsTag, SpellsUpTo}
use Rattle.tera_page.specs.Words.{IsNext}
use Rattle.tera_page.specs.Grammar.{Tag, if_tag, for_tag, elif_tag, set_tag, comment_mark, value_mark}
use Rattle.tera_page.specs.Reading.{IsChoice, IsLoop, StopsAt}
use Rattle.tera_page.specs.Template as tree
use Rattle.tera_page.specs.Template.{Part, Parts}
use Rattle.tera_page.specs.Tokens.{IsForTag, IsSetTag, tag_of}
use Rattle.tera_page.specs.View.{part_of, parts_of, showing_of, written_of}
use Rattle.tera_page.specs.declared.token.Tag as code
use Rattle.tera_page.specs.declared.tree.Node as node
use Rattle.tera_page.specs.declared.tree.Showing as code_showing
use Rattle.tera_page.specs.declared.tree.Written as code_written

-- what a tag of a loop says, behind its first word
pub for_said : (tag : Tag) (said word rest : List ℕ) → word ≡ codes "for" → IsNext said word rest → IsForTag tag rest → InTag tag said
for_said (for_tag bound over) said word rest is next (proper, loops) = (proper, (rest, subst (λ w. IsNext said w rest) is next, loops))
for_said tag said word rest is next none = absurd none

-- what a tag says that sets a name, behind its first word
pub set_said : (tag : Tag) (said word rest : List ℕ) → word ≡ codes "set" → IsNext said word rest → IsSetTag tag rest → InTag tag said
set_said (set_tag name value) said word rest is next (proper, assigns) = (proper, (rest, subst (λ w. IsNext said w rest) is next, assigns))
set_said tag said word rest is next none = absurd none

some_same : (x y : Tag) → Some x ≡ Some y → x ≡ y
some_same x y is = ap (λ o. unwrap_or o x) is

pub same_text : (xs ys : List ℕ) → bytes_eq xs ys ≡ true → xs ≡ ys
same_text xs ys is = search (rules, bytes_eq-Decides)

none_spelled : (text rest : List ℕ) → SpellsUpTo tree.no_parts text rest → text ≡ rest
none_spelled text rest (grammar.nothing whole left is) = is

some_spelled : (p : Part) (ps : Parts) (text rest : List ℕ) → SpellsUpTo (tree.part p ps) text rest
    → (next : List ℕ) × SpellsPart p text next × SpellsUpTo ps next rest
some_spelled p ps text rest (grammar.one_more q qs whole next left one more) = (next, one, more)

-- one part more
pub spelled_more : (nodes : List node.Node) (n : node.Node) (text next rest : List ℕ) → SpellsUpTo (parts_of nodes) text next
    → SpellsPart (part_of n) next rest → SpellsUpTo (parts_of (nodes ++ n ∷ [])) text rest
spelled_more [] n text next rest spelled one =
    grammar.one_more (part_of n) tree.no_parts text rest rest
    (subst (λ l. SpellsPart (part_of n) l rest) (sym (none_spelled text next spelled)) one) (grammar.nothing rest rest refl)
spelled_more (x ∷ nodes) n text next rest spelled one =
    let (middle, before, later) = some_spelled (part_of x) (parts_of nodes) text next spelled in
    grammar.one_more (part_of x) (parts_of (nodes ++ n ∷ [])) text middle rest before (spelled_more nodes n middle next rest later one)

-- what is left of a text in which nothing begins, where it is nothing or all
pub plain_left : (text rest : List ℕ) → IsPlain text → (rest ≡ []) ⊎ (rest ≡ text) → IsPlain rest
plain_left text rest plain (inl none) = subst IsPlain (sym none) (λ i below. absurd (omega (arith, below)))
plain_left text rest plain (inr all) = subst IsPlain (sym all) plain

-- what is next
module _ (text rest : List ℕ) where
  abbrev pub NextIs : node.Node → Type 0
  NextIs n = SpellsPart (part_of n) text rest

  pub next_text : (run : Bor (List ℕ)) → IsRun run.now text rest → NextIs (node.Text run)
  next_text run is = subst (λ p. SpellsPart p text rest) (sym (part-Text run)) (grammar.text run.now text rest is)

  pub next_comment : (said : Bor (List ℕ)) → Marked comment_mark said.now text rest → NextIs (node.Comment said)
  next_comment said is = subst (λ p. SpellsPart p text rest) (sym (part-Comment said)) (grammar.comment said.now text rest is)

  pub next_show : (written : code_written.Written) (how : code_showing.Showing) (said : List ℕ) → Writes (written_of written) said text
      → Shows said (showing_of how) text rest → NextIs (node.Show written how)
  next_show written how said writes shows =
      subst (λ p. SpellsPart p text rest) (sym (part-Show written how))
      (grammar.show (written_of written) (showing_of how) said text rest writes shows)

  pub next_set : (name : Bor (List ℕ)) (written : code_written.Written) (said : List ℕ) → Writes (written_of written) said text
      → SpellsTag (set_tag name.now said) text rest → NextIs (node.Set name written)
  next_set name written said writes tag =
      subst (λ p. SpellsPart p text rest) (sym (part-Set name written)) (grammar.assign name.now (written_of written) said text rest writes tag)

  pub next_choice : (said : List ℕ) (n : node.Node) (body : List ℕ) → SpellsTag (if_tag said) text body → IsChoice said text n body rest → NextIs n
  next_choice said n body tag (test, chosen, otherwise, tail, writes, view, inside, end) =
      subst (λ p. SpellsPart p text rest) (sym view) (grammar.choice test chosen otherwise said text body tail rest writes tag inside end)

  pub next_loop : (bound : tree.Bound) (said : List ℕ) (n : node.Node) (body : List ℕ) → SpellsTag (for_tag bound said) text body
      → IsLoop bound said text n body rest → NextIs n
  next_loop bound said n body tag (over, repeated, otherwise, tail, writes, view, inside, end) =
      subst (λ p. SpellsPart p text rest) (sym view) (grammar.loop bound over repeated otherwise said text body tail rest writes tag inside end)

-- an `elif` and what it begins
pub else_elif : (said : List ℕ) (n : node.Node) (left text rest : List ℕ) → SpellsTag (elif_tag said) left text → IsChoice said left n text rest
    → SpellsElse (parts_of (n ∷ [])) left rest
else_elif said n left text rest tag (test, chosen, otherwise, tail, writes, view, inside, end) =
    subst (λ p. SpellsElse (tree.part p tree.no_parts) left rest) (sym view)
    (grammar.elif test chosen otherwise said left text tail rest writes tag inside end)

-- the tag at which parts stop
pub ends_at : (stop : Option code.Tag) (end : Tag) (left rest : List ℕ) → option_map tag_of stop ≡ Some end → StopsAt stop left rest
    → SpellsTag end left rest
ends_at None end left rest same stops = absurd (cc)
ends_at (Some tag) end left rest same spells = subst (λ t. SpellsTag t left rest) (some_same (tag_of tag) end same) spells
