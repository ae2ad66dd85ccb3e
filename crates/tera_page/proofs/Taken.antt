-- What a choice takes.
use Rattle.std.specs.Prelude.{◌≡◌, Bool, true, false, cond, List, Ok, Vec}
use Rattle.std.proofs.Common.{ap, sym, ◌∙◌}
use Rattle.std.specs.declared.alloc.Global.{Global}
use Rattle.tera.specs.Form.{Form}
use Rattle.tera.specs.State.{State}
use Rattle.tera_page.proofs.Parts.{after_choice, shows_choice}
use Rattle.tera_page.proofs.Views.{choice_part}
use Rattle.tera_page.specs.Rendering.{after, all_after, all_pieces, pieces}
use Rattle.tera_page.specs.Values.{is_true, value_of}
use Rattle.tera_page.specs.View.{expression_of, part_of, parts_of, written_of}
use Rattle.tera_page.specs.declared.tree.Node as node
use Rattle.tera_page.specs.declared.tree.Written.{Written}

module _ (held : node.Node) (test : Written) (chosen otherwise : Vec node.Node Global) (state : State) (v : Form)
    (is : held ≡ node.If test chosen otherwise) (given : value_of (expression_of test.expression) state ≡ Ok v) where
  shows : (b : Bool) → is_true v ≡ b
      → pieces (part_of held) state ≡ cond b (all_pieces (parts_of chosen.items) state) (all_pieces (parts_of otherwise.items) state)
  shows b same =
      ap (λ p. pieces p state) (choice_part held test chosen otherwise is)
      ∙ shows_choice (written_of test) (parts_of chosen.items) (parts_of otherwise.items) state v b given same

  leads : (b : Bool) → is_true v ≡ b
      → after (part_of held) state ≡ cond b (all_after (parts_of chosen.items) state) (all_after (parts_of otherwise.items) state)
  leads b same =
      ap (λ p. after p state) (choice_part held test chosen otherwise is)
      ∙ after_choice (written_of test) (parts_of chosen.items) (parts_of otherwise.items) state v b given same

  -- it is what these nodes are
  pub shows_taken : (b : Bool) (nodes : List node.Node) → is_true v ≡ b → nodes ≡ cond b chosen.items otherwise.items
      → (pieces (part_of held) state ≡ all_pieces (parts_of nodes) state) × (after (part_of held) state ≡ all_after (parts_of nodes) state)
  shows_taken true nodes same from = (
    shows true same ∙ ap (λ l. all_pieces (parts_of l) state) (sym from),
    leads true same ∙ ap (λ l. all_after (parts_of l) state) (sym from),
  )
  shows_taken false nodes same from = (
    shows false same ∙ ap (λ l. all_pieces (parts_of l) state) (sym from),
    leads false same ∙ ap (λ l. all_after (parts_of l) state) (sym from),
  )
