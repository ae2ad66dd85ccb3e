-- What single steps answer and leave.
use Rattle.std.specs.Prelude.{◌≡◌, ℕ, ℤ, Bool, false, cond, List, [], Option, Some, None, Result, Ok, Err}
use Rattle.std.proofs.lemmas.Bool.{false≢true}
use Rattle.std.proofs.Common.{sym, ◌∙◌, ap, subst, refl, inl, inr, rules}
use Rattle.std.specs.Option.{option_map, unwrap_or}
use Rattle.std.specs.Ordering.{nat_cmp, eq_by_cmp}
use Rattle.std.specs.Cmp.{Equal-is}
use Rattle.std.specs.Cmp.Lexicographic.{slice_cmp, nat_list_cmp_total}
use Rattle.std.specs.FinMap.{get as held_at, get-insert}
use Rattle.tera_report.specs.Escaping.{escaped}
use Rattle.tera_report.specs.Refusal.{Refusal}
use Rattle.tera_report.proofs.EscapeLaws.{escaped_from_spelling}
use Rattle.tera_meaning.specs.Conversion.{IntegerType, read_as}
use Rattle.tera_meaning.specs.Form.{Form}
use Rattle.tera_meaning.specs.Meaning.{layout, meaning}
use Rattle.tera_meaning.specs.Printed.{printed, IsExact, PrintsNothing}
use Rattle.tera_meaning.specs.Read.{iterable_in, marked_safe}
use Rattle.tera_meaning.specs.Arithmetic.{each_ok, negated, as_i128}
use Rattle.tera_meaning.specs.Search.{Search, found_at, one_found, CopyTakes, FoundTakes, get, path, attr, item, slice, reverse, calculate, negate, read}
use Rattle.tera_meaning.specs.State.{State, form_at, layout_at, meaning_at}
use Rattle.tera_meaning.proofs.QuotedLaws.{alone_exact}
use Rattle.tera_meaning.proofs.StateLaws.{get_set, meaning_set, name_exact, get_other}
use Rattle.tera_meaning.specs.Alike.{MeanTheSame, meaning_held}
use Rattle.tera_meaning.specs.Answer
use Rattle.tera_meaning.specs.Question
use Rattle.tera_meaning.specs.Request.{mark_safe, ask, asking, asking_into}
use Rattle.tera_meaning.specs.Step.{marking, found_or_kept, keeping, ComesOnlyTo, state_after}
use Rattle.tera_meaning.specs.Steps.{StepsOnlyTo}
use Rattle.tera_meaning.specs.Tree.{undefined}

-- what is printed of a name that holds this form
pub prints : (state : State) (name : List ℕ) (o : Option Form) → held_at state name ≡ o
    → IsExact (layout (unwrap_or o undefined))
    → ComesOnlyTo state (ask Question.print name) (Ok (Answer.text (printed (layout (unwrap_or o undefined)))))
prints state name o e exact given (t, is, d) =
    let at : layout_at state name ≡ layout (unwrap_or o undefined) = ap (λ p. layout (unwrap_or p undefined)) e in
    d ∙ ap (λ s. Ok (Answer.text s)) (alone_exact _ t (subst IsExact (sym at) exact) is ∙ ap printed at)

-- what is escaped of a name that holds this form
pub escapes : (state : State) (name : List ℕ) (o : Option Form) → held_at state name ≡ o
    → IsExact (layout (unwrap_or o undefined))
    → ComesOnlyTo state (ask Question.escape name) (Ok (Answer.text (escaped (printed (layout (unwrap_or o undefined))))))
escapes state name o e exact given (t, w, is, spells, d) =
    let at : layout_at state name ≡ layout (unwrap_or o undefined) = ap (λ p. layout (unwrap_or p undefined)) e in
    d ∙ ap (λ s. Ok (Answer.text s)) (sym (escaped_from_spelling w t spells) ∙ ap escaped (alone_exact _ t (subst IsExact (sym at) exact) is ∙ ap printed at))

-- what is exact prints one text, and escapes to one
module _ (state : State) (name : List ℕ) where
  pub escapes_one : IsExact (layout_at state name)
      → ComesOnlyTo state (ask Question.escape name) (Ok (Answer.text (escaped (printed (layout_at state name)))))
  escapes_one = search (rules, escapes)

  pub prints_one : IsExact (layout_at state name)
      → ComesOnlyTo state (ask Question.print name) (Ok (Answer.text (printed (layout_at state name))))
  prints_one = search (rules, prints)

  pub prints_nothing : (into : Option (List ℕ)) → PrintsNothing (layout_at state name)
      → StepsOnlyTo state (ask Question.print name) into (Answer.text []) state
  prints_nothing into nothing new outcome (inl step) =
      (prints_one nothing.0 outcome step.0 ∙ ap (λ t. Ok (Answer.text t)) nothing.1, step.1)
  prints_nothing into nothing new outcome (inr want) = absurd (want.0 nothing)

  -- of what prints nothing nothing is escaped
  escaped_nothing : PrintsNothing (layout_at state name) → ComesOnlyTo state (ask Question.escape name) (Ok (Answer.text []))
  escaped_nothing (exact, none) given is = escapes_one exact given is ∙ ap (λ t. Ok (Answer.text (escaped t))) none

  pub escapes_nothing : (into : Option (List ℕ)) → PrintsNothing (layout_at state name)
      → StepsOnlyTo state (ask Question.escape name) into (Answer.text []) state
  escapes_nothing into nothing new outcome (inl step) = (escaped_nothing nothing outcome step.0, step.1)
  escapes_nothing into nothing new outcome (inr want) = absurd (want.0 nothing)

-- what is marked safe
module _ (state : State) (name : List ℕ) where
  pub marked_meaning : (into : List ℕ)
      → meaning_at (state_after state (asking_into (mark_safe name) into)) into ≡ meaning_at state name
  marked_meaning into = search (rules, meaning_set)

  pub marked_absent : (into : List ℕ) → held_at state name ≡ None
      → held_at (state_after state (asking_into (mark_safe name) into)) into ≡ Some undefined
  marked_absent into e = search (rules, get_set)

  marked_one : (value : Form) (other : List ℕ) (b : Bool) → eq_by_cmp (slice_cmp nat_cmp) other name ≡ b
      → held_at state name ≡ Some value
      → option_map meaning (cond b (Some (marked_safe value)) (held_at state other)) ≡ meaning_held state other
  marked_one value other x2 d e = search (rules, name_exact, Equal-is, slice_cmp)

  marked_held : (o : Option Form) → held_at state name ≡ o → MeanTheSame (marking state name o) state
  marked_held x0 e other = search (rules, get-insert, nat_list_cmp_total, marked_one)

  -- marked in its place, no meaning changes
  pub marked_alike : MeanTheSame (state_after state (asking (mark_safe name))) state
  marked_alike = search (rules, marked_held)

-- a refusal is passed on, and keeps nothing
pub refused_answer : (into : Option (List ℕ)) (refusal : Refusal) → found_or_kept into (Err refusal) ≡ Err refusal
refused_answer x0 refusal = search rules

pub refused_left : (state : State) (into : Option (List ℕ)) (refusal : Refusal) → keeping state into (Err refusal) ≡ state
refused_left state x1 refusal = search rules

-- what is computed or read is a number, which is no copy
each_number : (f : ℤ → Form) (r : Result ℤ Refusal) (x : Form) → ((z : ℤ) → iterable_in (f z) ≡ false) → each_ok f r ≡ Ok x
    → iterable_in x ≡ false
each_number f x1 x h e = search rules

negated_number : (v x : Form) → negated v ≡ Ok x → iterable_in x ≡ false
negated_number v x e = search rules

read_number : (type : IntegerType) (v x : Form) → read_as type v ≡ Ok x → iterable_in x ≡ false
read_number type v x e = search (rules, each_number)

one_is : (made : Result Form Refusal) (x : Form) → one_found made ≡ Ok (Some x) → made ≡ Ok x
one_is made x e = search rules

no_number_copied : (value : Form) → CopyTakes value → iterable_in value ≡ false → ⊥
no_number_copied value (parts, some) none = false≢true (sym none ∙ parts)

-- where a copy of what is found takes memory, what is made does
pub copy_takes : (state : State) (search : Search) (value : Form) → found_at state search ≡ Ok (Some value)
    → CopyTakes value → FoundTakes search (found_at state search)
copy_takes state (get name) value e h = subst (FoundTakes (get name)) (sym e) h
copy_takes state (path name p) value e h = subst (FoundTakes (path name p)) (sym e) h
copy_takes state (attr name t) value e h = subst (FoundTakes (attr name t)) (sym e) h
copy_takes state (item name i) value e h = subst (FoundTakes (item name i)) (sym e) h
copy_takes state (slice name start end step) value e h = subst (FoundTakes (slice name start end step)) (sym e) h
copy_takes state (reverse name) value e h = subst (FoundTakes (reverse name)) (sym e) h
copy_takes state (calculate operator left right) value e h =
    absurd (no_number_copied value h (each_number as_i128 _ value (λ z. refl) (one_is _ value e)))
copy_takes state (negate name) value e h =
    absurd (no_number_copied value h (negated_number (form_at state name) value (one_is (negated (form_at state name)) value e)))
copy_takes state (read type name) value e h =
    absurd (no_number_copied value h (read_number type (form_at state name) value (one_is (read_as type (form_at state name)) value e)))

pub ruleset marks = (marked_alike, marked_meaning, marked_absent, get_set, get_other)
