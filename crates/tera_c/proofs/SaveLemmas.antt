-- Why a session is no script.
use Rattle.std.proofs.Common.{◌≡◌, ◌∙◌, inl, inr, ℕ, List, Bool, false, Err, ap, sym}
use Rattle.std.proofs.lemmas.Bool.{false≢true}
use Rattle.tera_meaning.specs.Form.{Form}
use Rattle.tera_meaning.specs.Outcome.{is_want}
use Rattle.tera_report.specs.Errors.{IsOutOfMemory, kind_of, refusal_of}
use Rattle.tera_report.specs.declared.errors.Error.{Error}
use Rattle.tera_script.specs.Saved.{RefusesScript}
use Rattle.tera_c.specs.Values.{IsUnsaid}

-- whether an error is want of memory
abbrev wants : Error → Bool
wants e = is_want (Err (refusal_of (kind_of e)))

no_want : (e : Error) → wants e ≡ false → IsOutOfMemory e → ⊥
no_want e other want = false≢true (sym other ∙ ap wants want)

-- an error that is no want of memory says why
pub unsaid_by : (all : List (List ℕ × Form)) (e : Error) → RefusesScript all e → is_want (Err (refusal_of (kind_of e))) ≡ false
    → IsUnsaid all (refusal_of (kind_of e))
unsaid_by all e (inl want) other = absurd (no_want e other want)
unsaid_by all e (inr (inl (name, bad, inl states))) other = inl (name, bad, states.kind)
unsaid_by all e (inr (inl (name, bad, inr want))) other = absurd (no_want e other want)
unsaid_by all e (inr (inr (name, deep, inl states))) other = inr (name, deep, states.kind)
unsaid_by all e (inr (inr (name, deep, inr want))) other = absurd (no_want e other want)
