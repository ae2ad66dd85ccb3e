-- The innermost of two names hides the other.
use Rattle.std.proofs.Common.{Some, cond, ap, sym, ◌∙◌}
use Rattle.std.specs.FinMap.{get}
use Rattle.std.specs.Option.{option_copied, option_or}
use Rattle.tera_page.proofs.Views.{get_names, get_set, get_under, state-Item, state-Turn}
use Rattle.tera_page.proofs.scope.+named.Goals as goal
use Rattle.tera_page.specs.View.{names_of, state_of}

pub returns-in-Some : goal.returns-in-Some
returns-in-Some t c =
    let name = c.args.name.now in
    let outer = get (state_of c.in-Turn.outer.now) name in
    sym (ap (λ s. get (state_of s) name) c.in-Turn.is
    ∙ ap (λ s. get s name) (state-Turn c.in-Turn.turn c.in-Turn.outer)
    ∙ get_names (state_of c.in-Turn.outer.now) (names_of c.in-Turn.turn.now) name
    ∙ ap (λ o. option_or o outer) (sym c.named.ensures ∙ ap option_copied c.in-Some.is))

pub returns-in-None : goal.returns-in-None
returns-in-None t c =
    let name = c.args.name.now in
    let outer = get (state_of c.in-Turn.outer.now) name in
    c.named-in-None.ensures
    ∙ sym (ap (λ s. get (state_of s) name) c.in-Turn.is
    ∙ ap (λ s. get s name) (state-Turn c.in-Turn.turn c.in-Turn.outer)
    ∙ get_names (state_of c.in-Turn.outer.now) (names_of c.in-Turn.turn.now) name
    ∙ ap (λ o. option_or o outer) (sym c.named.ensures ∙ ap option_copied c.in-None.is))

pub returns-then-eq : goal.returns-then-eq
returns-then-eq t c =
    let name = c.args.name.now in
    sym (ap (λ s. get (state_of s) name) c.in-Item.is
    ∙ ap (λ s. get s name) (state-Item c.in-Item.bound c.in-Item.value c.in-Item.outer)
    ∙ get_under (state_of c.in-Item.outer.now) c.in-Item.bound.now c.in-Item.value.now name
    ∙ ap (λ b. cond b (Some c.in-Item.value.now) (get (state_of c.in-Item.outer.now) name)) (sym c.eq.ensures ∙ c.if-eq.true))

pub returns-else-eq : goal.returns-else-eq
returns-else-eq t c =
    let name = c.args.name.now in
    c.named-else-eq.ensures
    ∙ sym (ap (λ s. get (state_of s) name) c.in-Item.is
    ∙ ap (λ s. get s name) (state-Item c.in-Item.bound c.in-Item.value c.in-Item.outer)
    ∙ get_under (state_of c.in-Item.outer.now) c.in-Item.bound.now c.in-Item.value.now name
    ∙ ap (λ b. cond b (Some c.in-Item.value.now) (get (state_of c.in-Item.outer.now) name)) (sym c.eq.ensures ∙ c.if-eq.false))

pub returns-in-Some-get : goal.returns-in-Some-get
returns-in-Some-get t c =
    let name = c.args.name.now in
    sym (ap (λ s. get (state_of s) name) c.in-Set.is
    ∙ get_set c.in-Set.names c.in-Set.outer name
    ∙ ap (λ o. option_or o (get (state_of c.in-Set.outer.now) name)) c.in-Some-get.ensures)

pub returns-in-None-get : goal.returns-in-None-get
returns-in-None-get t c =
    let name = c.args.name.now in
    c.named-in-None-get.ensures
    ∙ sym (ap (λ s. get (state_of s) name) c.in-Set.is
    ∙ get_set c.in-Set.names c.in-Set.outer name
    ∙ ap (λ o. option_or o (get (state_of c.in-Set.outer.now) name)) c.in-None-get.ensures)
