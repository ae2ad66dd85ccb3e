use Rattle.std.proofs.Common.{◌∙◌, ◌++◌, ℕ, List, String, Global, ap, append-nil, arith, length, length-append, subst, sym}
use Rattle.std.proofs.lemmas.Bool.{false≢true}
use Rattle.std.proofs.lemmas.List.{length-map}
use Rattle.std.specs.Cmp.Lexicographic.{slice_cmp}
use Rattle.std.specs.Ordering.{nat_cmp}
use Rattle.std.specs.String.{string_bytes}
use Rattle.tera_meaning.specs.Form.{Form}
use Rattle.tera_meaning.specs.Pairs.{HasDistinctKeys}
use Rattle.tera_context.specs.Context.{lent_entries, named}
use Rattle.tera_context.proofs.ByName.{names_apart}
use Rattle.tera_context.proofs.Extends.{no_pairs}
use Rattle.tera_context.proofs.by_name.lent.Goals as goal

pub returns-in_err-all-clause-nothing : goal.returns-in_err-all-clause-nothing
returns-in_err-all-clause-nothing c none =
    absurd (false≢true (c.in_err-all.ensures.succeeds (c.len.ensures.len ∙ no_pairs c.args.values.now.entries none)))

pub returns-in_err-push-clause-nothing : goal.returns-in_err-push-clause-nothing
returns-in_err-push-clause-nothing c none =
    let held : List (String Global × Form) = c.args.values.now.entries in
    let left : List (String Global × Form) = c.loop-name.name-iterator in
    let no_entry = no_pairs held none in
    let split = ap length c.loop-name.invariant in
    let steps = ap length c.in-Some.ensures.steps in
    let parts = length-append (lent_entries c.loop-name.all.items) (named left) in
    let names = length-map {B = List ℕ × Form} held (λ p. (string_bytes p.0, p.1)) in
    let later = length-map {B = List ℕ × Form} left (λ p. (string_bytes p.0, p.1)) in
    absurd (omega (arith, no_entry, split, steps, parts, names, later))

pub returns-clause-apart : goal.returns-clause-apart
returns-clause-apart c =
    let all = lent_entries c.loop-name.all.items in
    subst (HasDistinctKeys (slice_cmp nat_cmp))
    (sym (sym (append-nil all) ∙ ap (λ ps. all ++ named ps) (sym c.in-None.ensures.steps.0) ∙ c.loop-name.invariant))
    (names_apart c.args.values.now.entries c.len.ensures.unique)
