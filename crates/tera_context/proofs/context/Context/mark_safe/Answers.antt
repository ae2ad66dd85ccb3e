-- The value of the name is marked, where there is one.
use Rattle.std.proofs.Common.{rules, ◌∙◌, ap}
use Rattle.std.specs.FinMap.{get}
use Rattle.tera_meaning.specs.Step.{marking}
use Rattle.tera_context.specs.Context.{state_of}
use Rattle.tera_context.proofs.Names.{named_marked, none_marked}
use Rattle.tera_context.proofs.context.Context.mark_safe.Goals.{in-Some, in_default}
use Rattle.tera_context.proofs.context.Context.mark_safe.Goals as goal

pub returns : goal.returns
returns c =
    let name = c.args.name.now in
    let old = c.self.inside.values in
    let seen = ap (λ s. marking s name (get s name)) c.self.view_is in
    elim c.match-get_mut.branch [
      | in-Some w ↦ ap (λ x. state_of x.values.entries) w.self-inside-is
          ∙ named_marked old (c.get_mut.follows.lender w.mark.new.value) name
          w.in-Some.value.now w.mark.new.value (search rules) w.mark.ensures (c.get_mut.follows.holds w.mark.new.value).3
          ∙ seen
      | in_default w ↦ ap (λ x. state_of x.values.entries) w.self-inside-is
          ∙ ap (λ m. state_of m.entries) c.get_mut.follows.holds-at-none
          ∙ none_marked old name (search rules)
          ∙ seen
    ]
