use Rattle.std.proofs.Common.{IfOk, sym, ◌∙◌, ap, subst, map, string_bytes, ◌≡◌}
use Rattle.tera_values.specs.View.{form_of}
use Rattle.tera_values.proofs.FieldLemmas.{shown_of, none_shown}
use Rattle.tera_values.proofs.value.Value.walk.Goals as goal

pub returns-in-Map-clause-ok : goal.returns-in-Map-clause-ok
returns-in-Map-clause-ok c =
    let same = shown_of c.args.self.now c.in-Map.all (sym c.self.view_is ∙ ap form_of c.in-Map.is) in
    subst (λ names. IfOk c.printed_keys.result (λ made. map string_bytes made.items ≡ names)) (sym same) c.printed_keys.ensures.ok

pub returns-in-Map-clause-succeeds : goal.returns-in-Map-clause-succeeds
returns-in-Map-clause-succeeds c none =
    let same = shown_of c.args.self.now c.in-Map.all (sym c.self.view_is ∙ ap form_of c.in-Map.is) in
    c.printed_keys.ensures.succeeds (none_shown c.in-Map.all (sym same ∙ none))
