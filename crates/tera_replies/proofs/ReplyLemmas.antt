-- What was put, what a failed put stands for, and how outcomes are replied to.
use Rattle.std.proofs.Common.{◌≡◌, ◌≢◌, ℕ, Bool, List, [], ◌∷◌, ◌++◌, inl, inr, ap, refl, ◌∙◌, append_assoc, codes, decimal, true, false, sym}
use Rattle.std.specs.Prelude.{Result, Ok, Err, MatchResult, IfOk, IfErr, Option, Some, None, IfSome, IsSome, IsTrue}
use Rattle.std.specs.Fmt.{debug_list, debug_str}
use Rattle.tera_meaning.specs.{Printed.printed_with, Printed.is_exact_inside, Outcome.Outcome, Outcome.is_want, Tree.undefined, Tree.none, Kind.kind_name}
use Rattle.tera_meaning.specs.{Meaning.layout, State.State, Form.Form}
use Rattle.tera_meaning.proofs.QuotedLaws.{inside_exact, inside_prints}
use Rattle.tera_report.specs.{Refusal.Refusal, Refusal.message, Refusal.stated, Refusal.text_of, Quoted.quoted, declared.errors.Error.Error}
use Rattle.tera_report.specs.Sink.{Puts, Sends}
use Rattle.tera_report.proofs.{TellLaws.some_telling, TellLaws.told_known, TellLaws.telling_stated}
use Rattle.tera_report.proofs.QuoteLaws.{some_list, list_known}
use Rattle.tera_report.proofs.SentLaws.{sends_nothing, sends_put, sends_joined}
use Rattle.tera_replies.specs.declared.fault.Fault.TheVariants.{BadLine, ReadFailed, WriteFailed, OutOfMemory}
use Rattle.tera_replies.specs.{Reply.IsFormOf, Reply.IsListed, Reply.IsReply, Reply.IsFixedReply, Reply.order_name, declared.fault.Fault.Fault, Output.BrokeOn}
use Rattle.tera_replies.specs.{Stretch.LineStops, inner.Endings.ReplyStops, Stretch.Runs, inner.Stated.outcome_stated}
use Rattle.tera_context.specs.Steps.{ShowsOutcome}
use Rattle.tera_context.specs.Lent.{LentForm, StandsFor}
use Rattle.tera_context.specs.Lent
use Rattle.tera_meaning.specs.Answer
use Rattle.tera_context.specs.declared.call.Answer as code

module _ {S : Type 0} {takes fails : S → List ℕ → S → Type 0} {flushes flush_fails : S → S → Type 0} where
  pub broke_on_put : {s t : S} {a : List ℕ} → fails s a t → BrokeOn takes fails flushes flush_fails s a t
  broke_on_put {s} {a} p = record { front = []; sent = s; sends = sends_nothing takes flushes s; fault = inl (a, refl, p) }

  -- a flush behind these bytes failed
  pub broke_on_flush : {s t u : S} {a : List ℕ} → Sends takes flushes s a t → flush_fails t u → BrokeOn takes fails flushes flush_fails s a u
  broke_on_flush {t} {a} p failed = record { front = a; sent = t; sends = p; fault = inr (refl, failed) }

  pub broke_on_later : {s t u : S} {a b : List ℕ} → Sends takes flushes s a t → BrokeOn takes fails flushes flush_fails t b u
      → BrokeOn takes fails flushes flush_fails s (a ++ b) u
  broke_on_later {a} p h = record {
    front = a ++ h.front;
    sent = h.sent;
    sends = sends_joined takes flushes _ _ _ _ _ p h.sends;
    fault = elim h.fault [
      | inl (rest, is, failed) ↦ inl (rest, append_assoc a h.front rest ∙ ap (λ (zs : List ℕ). a ++ zs) is, failed)
      | inr (is, failed) ↦ inr (ap (λ (zs : List ℕ). a ++ zs) is, failed)
    ];
  }

-- a reply that answers in one way answers in another
pub answers_so : (result : Result Bool Fault) (Replies OutGets OutBroke : List ℕ → Type 0) (Answers : List ℕ → Bool → Type 0) (w : Bool)
    → ((reply : List ℕ) → Replies reply → Answers reply w)
    → IfOk result (λ wanted. (reply : List ℕ) × Replies reply × OutGets reply × (wanted ≡ w)) → IfErr result (ReplyStops Replies OutBroke)
    → record {
      ok : IfOk result (λ wanted. (reply : List ℕ) × Answers reply wanted × OutGets reply);
      err : IfErr result (ReplyStops (λ reply. (wanted : Bool) × Answers reply wanted) OutBroke);
      only : MatchResult result (λ wanted. wanted ≡ w) (λ fault. fault ≡ WriteFailed);
    }
answers_so (Ok wanted) Replies OutGets OutBroke Answers w so (reply, is, gets, same) err =
    record { ok = (reply, rw same (so reply is), gets); err = tt; only = same }
answers_so (Err (BadLine report)) Replies OutGets OutBroke Answers w so ok err = absurd err
answers_so (Err ReadFailed) Replies OutGets OutBroke Answers w so ok err = absurd err
answers_so (Err WriteFailed) Replies OutGets OutBroke Answers w so ok (reply, is, broke) =
    record { ok = tt; err = (reply, (w, so reply is), broke); only = refl }
answers_so (Err OutOfMemory) Replies OutGets OutBroke Answers w so ok err = absurd err

-- a reply was put, or a write failed
module _ {S E : Type 0} (takes fails : S → List ℕ → S → Type 0) (flushes flush_fails : S → S → Type 0) (P : List ℕ → Type 0) where
  pub reply_sent : (put : Result (Unit {0}) E) (result : Result (Unit {0}) Fault) (old new : S)
      → MatchResult put (λ _. result ≡ Ok tt) (λ _. result ≡ Err WriteFailed) → result ≡ Ok tt → Puts takes fails put P old new
      → (line : List ℕ) × P line × Sends takes flushes old line new
  reply_sent (Ok done) result old new written was (line, has, h) = (line, has, sends_put takes flushes old line new h)
  reply_sent (Err fault) result old new written was h = absurd (cc)

  pub reply_failed : (put : Result (Unit {0}) E) (result : Result (Unit {0}) Fault) (old new : S) (fault : Fault)
      → MatchResult put (λ _. result ≡ Ok tt) (λ _. result ≡ Err WriteFailed) → result ≡ Err fault → Puts takes fails put P old new
      → ReplyStops P (λ text. BrokeOn takes fails flushes flush_fails old text new) fault
  reply_failed (Ok done) result old new fault written was h = absurd (cc)
  reply_failed (Err refused) result old new fault written was (line, has, h) =
      let is : fault ≡ WriteFailed = cc in rw is (line, has, broke_on_put h)

pub some_form : (v : Form) → (form : List ℕ) × IsFormOf v form
some_form undefined = (codes "undefined", refl)
some_form none = (codes "none", refl)
some_form v = (printed_with quoted (layout v), inside_prints (layout v))

one_text : (known : Option (List ℕ)) (words other : List ℕ) → IsSome known → IfSome known (λ t. words ≡ t)
    → IfSome known (λ t. other ≡ t) → words ≡ other
one_text None words other fixed h g = absurd (cc)
one_text (Some t) words other fixed h g = h ∙ sym g

pub some_reply : (outcome : Outcome) → (line : List ℕ) × IsReply outcome line
some_reply (Ok Answer.done) = (codes "ok", refl)
some_reply (Ok (Answer.truth true)) = (codes "true", refl)
some_reply (Ok (Answer.truth false)) = (codes "false", refl)
some_reply (Ok (Answer.order order)) = (order_name order, refl)
some_reply (Ok (Answer.found None)) = (codes "nothing", refl)
some_reply (Ok (Answer.found (Some v))) = let form = some_form v in (codes "value " ++ form.0, (form.0, form.1, refl))
some_reply (Ok (Answer.size None)) = (codes "nothing", refl)
some_reply (Ok (Answer.size (Some n))) = (codes "size " ++ decimal n, refl)
some_reply (Ok (Answer.kind kind)) = (codes "kind " ++ kind_name kind, refl)
some_reply (Ok (Answer.text printed)) = (codes "text " ++ printed, refl)
some_reply (Ok (Answer.texts texts)) = let listed = some_list texts in (codes "fields " ++ listed.0, (listed.0, listed.1, refl))
some_reply (Ok (Answer.walked texts)) = let listed = some_list texts in (codes "walk " ++ listed.0, (listed.0, listed.1, refl))
some_reply (Err refusal) = let told = some_telling refusal in (codes "error: " ++ told.0, (told.0, told.1, refl))

one_form : (v : Form) (form other : List ℕ) → IsTrue (is_exact_inside (layout v)) → IsFormOf v form → IsFormOf v other → form ≡ other
one_form undefined form other exact h g = h ∙ sym g
one_form none form other exact h g = h ∙ sym g
one_form v form other exact h g = inside_exact (layout v) form exact h ∙ sym (inside_exact (layout v) other exact g)

one_listed : (word : List ℕ) (texts : List (List ℕ)) (line other : List ℕ) → IsSome (debug_list debug_str texts) → IsListed word texts line
    → IsListed word texts other → line ≡ other
one_listed word texts line other fixed h g =
    let same = one_text (debug_list debug_str texts) h.0 g.0 fixed (list_known texts h.0 h.1) (list_known texts g.0 g.1) in
    h.2 ∙ ap (λ (listed : List ℕ). word ++ listed) same ∙ sym g.2

pub one_reply : (outcome : Outcome) (line other : List ℕ) → IsFixedReply outcome → IsReply outcome line → IsReply outcome other → line ≡ other
one_reply (Ok (Answer.truth true)) line other fixed h g = h ∙ sym g
one_reply (Ok (Answer.truth false)) line other fixed h g = h ∙ sym g
one_reply (Ok (Answer.found (Some v))) line other fixed h g = h.2 ∙ ap (λ (form : List ℕ). codes "value " ++ form) (one_form v h.0 g.0 fixed h.1 g.1) ∙ sym g.2
one_reply (Ok (Answer.size None)) line other fixed h g = h ∙ sym g
one_reply (Ok (Answer.size (Some n))) line other fixed h g = h ∙ sym g
one_reply (Ok (Answer.texts texts)) line other fixed h g = one_listed (codes "fields ") texts line other fixed h g
one_reply (Ok (Answer.walked texts)) line other fixed h g = one_listed (codes "walk ") texts line other fixed h g
one_reply (Err refusal) line other fixed h g = h.2 ∙ ap (λ (words : List ℕ). codes "error: " ++ words)
    (one_text (text_of refusal) h.0 g.0 fixed (told_known refusal h.0 h.1) (told_known refusal g.0 g.1)) ∙ sym g.2
one_reply outcome line other fixed h g = h ∙ sym g

-- what the error of a refusal states is want of memory just where the refusal is
want_stated : (refusal : Refusal) → is_want (Err (stated refusal)) ≡ is_want (Err refusal)
want_stated (message words) = refl
want_stated refusal = refl

-- the reply to what is stated is one to what is shown
pub reply_shown : (answer : Result code.Answer Error) (outcome : Outcome) (line : List ℕ)
    → ShowsOutcome answer outcome → IsReply (outcome_stated answer) line → IsReply outcome line
reply_shown (Ok answer) outcome line shows reply = rw shows reply
reply_shown (Err e) outcome line (refusal, shows, is) (words, told, written) =
    rw is (words, (telling_stated refusal words).0 (rw shows.kind at told), written)

pub want_shown : (answer : Result code.Answer Error) (outcome : Outcome) → ShowsOutcome answer outcome
    → is_want (outcome_stated answer) ≡ is_want outcome
want_shown (Ok answer) outcome shows = ap is_want (sym shows)
want_shown (Err e) outcome (refusal, shows, is) = rw (is, shows.kind) (want_stated refusal)

-- what is lent stands for no want of memory
pub not_wanted : (lent : LentForm) (outcome : Outcome) → StandsFor lent outcome → is_want outcome ≡ false
not_wanted (Lent.found part) outcome is = ap is_want is
not_wanted (Lent.printed value) outcome (text, prints, is) = ap is_want is
not_wanted (Lent.known answer) outcome is = ap is_want is
