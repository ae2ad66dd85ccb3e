-- The entries' names are those of the context.
use Rattle.std.proofs.Common.{◌≡◌, ◌∙◌, ◌++◌, Bor, List, ℕ, ap, append-nil, codes, map, subst, sym}
use Rattle.std.specs.FinMap.{keys}
use Rattle.std.specs.List.{find, flat_map}
use Rattle.tera_meaning.specs.Form.{Form}
use Rattle.tera_report.specs.Errors.{Raises}
use Rattle.tera_report.specs.Refusal.{message}
use Rattle.tera_replies.specs.Script.{ended}
use Rattle.tera_c.specs.Values.{is_broken}
use Rattle.tera_c.proofs.NameLemmas.{names_of, none_broken, one_broken}
use Rattle.tera_c.proofs.session_values.names_text.Goals as goal

abbrev names : List (Bor (List ℕ) × Bor Form) → List (List ℕ)
names all = map (λ e. e.0.now) all

pub returns-in-Some-clause-err : goal.returns-in-Some-clause-err
returns-in-Some-clause-err c =
    let name = c.in-Some.name.now in
    let held = keys c.args.context.now in
    let whole : names c.as_slice.result.now ≡ held =
    ap names c.as_slice.ensures.value ∙ names_of c.in_ok-entries.entries.items c.args.context.now c.in_ok-entries.ensures.ok in
    one_broken held name c.message_of.result (sym (ap (find is_broken) whole) ∙ sym c.in-Some.ensures)
    (subst (λ (t : List ℕ). Raises (message (codes "A line feed stands inside the name " ++ t)) c.message_of.result) (append-nil name) c.message_of.ensures)

pub returns-clause-ok : goal.returns-clause-ok
returns-clause-ok c =
    let held = keys c.args.context.now in
    let same = names_of c.in_ok-entries.entries.items c.args.context.now c.in_ok-entries.ensures.ok in
    let first : names c.as_slice.result.now ≡ held = ap names c.as_slice.ensures.value ∙ same in
    let later : names c.as_slice-in-None.result.now ≡ held = ap names c.as_slice-in-None.ensures.value ∙ same in
    none_broken held _ (sym (ap (find is_broken) first) ∙ sym c.in-None.ensures) (c.in_ok-lines_of-in-None.ensures ∙ ap (flat_map ended) later)
