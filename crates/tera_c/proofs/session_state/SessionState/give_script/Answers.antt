-- What is kept as the reply is why there is no script.
use Rattle.std.proofs.Common.{inl, inr, refl}
use Rattle.tera_report.specs.Errors.{kind_of, refusal_of}
use Rattle.tera_c.proofs.SaveLemmas.{unsaid_by}
use Rattle.tera_c.proofs.session_state.SessionState.give_script.Goals as goal

pub returns-in-Err : goal.returns-in-Err
returns-in-Err c =
    elim c.refuse_by.ensures [
      | inl (other, kept) ↦ inr (inl (refusal_of (kind_of c.in-Err.error), unsaid_by _ c.in-Err.error c.in-Err.ensures.err other, (kept, (refl, refl))))
      | inr stays ↦ inr (inr (stays, (refl, refl)))
    ]
