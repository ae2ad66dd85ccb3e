-- The reply that stands in a text, and a session before and after.
use Rattle.std.proofs.Common.{◌≡◌, ℕ, Bool, List, [], ◌∷◌, Option, None, Some, IfSome, ap, sym, subst, ◌∙◌}
use Rattle.std.specs.Prelude.{IfNone, IsSomeAnd}
use Rattle.tera_meaning.specs.State.{State}
use Rattle.tera_report.specs.Growing.{GrowingTakes, grown_bytes}
use Rattle.tera_report.specs.Report.{Report, report_text}
use Rattle.tera_report.specs.Sink.{Sends}
use Rattle.tera_report.specs.declared.growing.Growing.{Growing}
use Rattle.tera_replies.specs.Script.{ended}
use Rattle.tera_replies.specs.Stretch.{Runs}
use Rattle.tera_c.specs.Sessions.{Goes}
use Rattle.tera_c.specs.declared.session_state.SessionState.{SessionState}
use Rattle.tera_c.proofs.TextLemmas.{sent_is}

-- what a line was answered by is all that an empty text then holds
pub reply_is : (n : ℕ) (old new : State) (line : List ℕ) (want : Bool) (first last : Growing) (bytes : List ℕ)
    → grown_bytes first ≡ [] → bytes ≡ grown_bytes last
    → ((text : List ℕ) × Runs n old (line ∷ []) text want new × Sends GrowingTakes (λ (a b : Growing). b ≡ a) first text last)
    → Runs n old (line ∷ []) bytes want new
reply_is n old new line want first last bytes empty is (text, runs, sent) =
    subst (λ (b : List ℕ). Runs n old (line ∷ []) b want new) (sym (is ∙ sent_is first text last empty sent)) runs

-- the reply is the report, which is another by what it holds
pub report_same : {reply : List ℕ} (report other : Report) → reply ≡ ended (report_text report) → report ≡ other → reply ≡ ended (report_text other)
report_same report other is same = is ∙ ap (λ (r : Report). ended (report_text r)) same

-- a session that was open, and one that was closed
pub when_open : {X : Type 0} (old : Option X) (x : X) (P : X → Type 0) → old ≡ Some x → P x → IfSome old P
when_open {X = X} old x P was p = subst (λ (o : Option X). IfSome o P) (sym was) p

pub not_closed : {X : Type 0} (old : Option X) (x : X) (P : Type 0) → old ≡ Some x → IfNone old P
not_closed {X = X} old x P was = subst (λ (o : Option X). IfNone o P) (sym was) tt

pub when_closed : {X : Type 0} (old : Option X) (P : Type 0) → old ≡ None → P → IfNone old P
when_closed {X = X} old P was p = subst (λ (o : Option X). IfNone o P) (sym was) p

pub not_open : {X : Type 0} (old : Option X) (P : X → Type 0) → old ≡ None → IfSome old P
not_open {X = X} old P was = subst (λ (o : Option X). IfSome o P) (sym was) tt

pub goes_where : (old new : Option SessionState) (s t : SessionState) (P : SessionState → SessionState → Type 0)
    → old ≡ Some s → new ≡ Some t → P s t → Goes old P new
goes_where old new s t P was is p =
    when_open old s (λ (inner : SessionState). IsSomeAnd new (P inner)) was (subst (λ (n : Option SessionState). IsSomeAnd n (P s)) (sym is) p)
