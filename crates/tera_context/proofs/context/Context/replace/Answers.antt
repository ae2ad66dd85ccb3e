use Rattle.std.proofs.Common.{◌≡◌, ◌∙◌, Some, None, ap, sym, subst, refl, rules}
use Rattle.std.specs.FinMap.{get, insert}
use Rattle.std.specs.Option.{IsSome}
use Rattle.indexmap.specs.IndexMap.{get_by_text}
use Rattle.tera_context.specs.Context.{state_of}
use Rattle.tera_context.proofs.Names.{get_named, named_insert}
use Rattle.tera_context.proofs.context.Context.replace.Goals as goal

pub returns-in_default : goal.returns-in_default
returns-in_default c =
    let name = c.args.name.now in
    let old = c.self.inside.values in
    let absent : get_by_text old name ≡ None = search rules in (
      refl,
      ap (λ m. state_of m.entries) c.get_mut.follows.holds-at-none ∙ c.self.view_is,
      ap (λ s. get s name) (sym c.self.view_is) ∙ get_named old.entries name ∙ absent,
    )

pub returns : goal.returns
returns c =
    let name = c.args.name.now in
    let old = c.self.inside.values in
    let put = c.replace.new.dest in
    let there : get_by_text old name ≡ Some c.in-Some.held.now = search rules in
    named_insert old (c.get_mut.follows.lender put) name put ((c.get_mut.follows.holds put).3 (subst IsSome (sym there) refl))
    ∙ (λ i. insert (c.self.view_is i) name (c.replace.ensures.after i))
