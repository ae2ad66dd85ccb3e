-- A line that is skipped says nothing, and one that says a call is answered by one reply.
use Rattle.std.proofs.Common.{◌≢◌, ℕ, Bool, List, [], ◌∷◌, Option, Some, None, inl, inr, refl, subst}
use Rattle.std.specs.Prelude.{Result, Ok, Err, IfOk, IfErr, IsSome}
use Rattle.tera_meaning.specs.{Request.Command, Request.Request, Request.set, Request.extend, State.State}
use Rattle.tera_context.specs.Lent.{lent_at, request_lent}
use Rattle.tera_context.specs.Request.{command_form}
use Rattle.tera_report.proofs.SentLaws.{sends_nothing}
use Rattle.tera_script.specs.Line.{BringsNothing, IsBad, Says}
use Rattle.tera_script.proofs.SaidLaws.{one_command, skipped_says_nothing}
use Rattle.tera_replies.specs.declared.fault.Fault.{Fault}
use Rattle.tera_replies.specs.declared.fault.Fault.TheVariants.{BadLine, ReadFailed, WriteFailed, OutOfMemory}
use Rattle.tera_replies.specs.{Stretch.LineStops, Stretch.Runs}
use Rattle.tera_replies.specs.inner.Endings.{AnswersCall, IsBadLineFault, ReplyStops}
use Rattle.tera_replies.proofs.{StretchLemmas.Runs-silent, StretchLemmas.Runs-says}
use Rattle.tera_replies.proofs.feed.answer_line.Goals as goal

pub returns-in-Skipped-clause-ok : goal.returns-in-Skipped-clause-ok
returns-in-Skipped-clause-ok g c =
    ([], Runs-silent _ _ _ (inl (rw c.in-Skipped.is at c.in_ok-read_line.ensures.reading, (refl, refl))), sends_nothing _ _ _)

-- the answer to what a line says, and a run of the line
line_runs : (n : ℕ) (old new : State) (line : List ℕ) (command : Command) → Says line command → (reply : List ℕ) (wanted : Bool)
    → AnswersCall command old new reply wanted → Runs n old (line ∷ []) reply wanted new
line_runs n old new line command says reply wanted (outcome, step, (text, is_reply, ended_is), same) =
    rw (ended_is, same) (Runs-says n old new line text command outcome says step is_reply)

-- the answer to what a line says leaves a run of the line, and so does a write of it that failed
call_answered : (result : Result Bool Fault) (OutGets OutBroke : List ℕ → Type 0) (OutStays Same : Type 0) (n : ℕ) (old new : State) (line : List ℕ)
    (command : Command) → Says line command
    → IfOk result (λ wanted. (reply : List ℕ) × AnswersCall command old new reply wanted × OutGets reply)
    → IfErr result (ReplyStops (λ reply. (wanted : Bool) × AnswersCall command old new reply wanted) OutBroke)
    → record {
      ok : IfOk result (λ wanted. (text : List ℕ) × Runs n old (line ∷ []) text wanted new × OutGets text);
      err : IfErr result (LineStops n old line new OutStays OutBroke);
      unchanged : IfErr result (λ fault. fault ≢ WriteFailed → Same);
    }
call_answered (Ok wanted) OutGets OutBroke OutStays Same n old new line command says (reply, answers, gets) err =
    record { ok = (reply, line_runs n old new line command says reply wanted answers, gets); err = tt; unchanged = tt }
call_answered (Err (BadLine report)) OutGets OutBroke OutStays Same n old new line command says ok err = absurd err
call_answered (Err ReadFailed) OutGets OutBroke OutStays Same n old new line command says ok err = absurd err
call_answered (Err WriteFailed) OutGets OutBroke OutStays Same n old new line command says ok (reply, (wanted, answers), broke) =
    record { ok = tt; err = (reply, wanted, line_runs n old new line command says reply wanted answers, broke); unchanged = λ other. absurd (other refl) }
call_answered (Err OutOfMemory) OutGets OutBroke OutStays Same n old new line command says ok err = absurd err

-- a bad line leaves its report, or want of memory for that
bad_stops : (fault : Fault) (OutStays : Type 0) (OutBroke : List ℕ → Type 0) (n : ℕ) (old new : State) (line : List ℕ) → IsBadLineFault n line fault
    → IsBad line → OutStays → LineStops n old line new OutStays OutBroke fault
bad_stops (BadLine report) OutStays OutBroke n old new line is bad stays = (is, bad, stays)
bad_stops ReadFailed OutStays OutBroke n old new line is bad stays = absurd is
bad_stops WriteFailed OutStays OutBroke n old new line is bad stays = absurd is
bad_stops OutOfMemory OutStays OutBroke n old new line is bad stays = stays

pub returns-in-Bad-clause-err : goal.returns-in-Bad-clause-err
returns-in-Bad-clause-err g c =
    bad_stops c.bad_line_fault.result _ _ _ _ _ _ c.bad_line_fault.ensures (rw c.in-Bad.is at c.in_ok-read_line.ensures.reading) (sends_nothing _ _ _)

pub returns-in-Says : goal.returns-in-Says
returns-in-Says g c =
    let says = rw c.in-Says.is at c.in_ok-read_line.ensures.reading in
    let a = call_answered c.answer_command.result _ _ _ _ c.args.number _ _ c.args.line.now (command_form c.in-Says.command) says c.answer_command.ensures.ok
    c.answer_command.ensures.err in
    record {
      ok = a.ok;
      err = a.err;
      skipped = λ skip. absurd (skipped_says_nothing c.args.line.now _ skip says);
      lent = λ command said free some.
          let same = one_command c.args.line.now command (command_form c.in-Says.command) said says in
          c.answer_command.ensures.lent (subst (λ x. IsSome (lent_at c.args.context.now x)) same some);
      unchanged = a.unchanged;
    }

pub returns-in-Skipped-clause-lent : goal.returns-in-Skipped-clause-lent
returns-in-Skipped-clause-lent g c = λ command says free some.
    absurd (skipped_says_nothing c.args.line.now command (rw c.in-Skipped.is at c.in_ok-read_line.ensures.reading) says)

pub returns-in-Bad-clause-lent : goal.returns-in-Bad-clause-lent
returns-in-Bad-clause-lent g c = λ command says free some.
    let bad : IsBad c.args.line.now = rw c.in-Bad.is at c.in_ok-read_line.ensures.reading in
    absurd (bad.1 command says)

-- a command that a context lends an answer for brings nothing
lent_brings_nothing : (state : State) (into : Option (List ℕ)) (request : Request) → IsSome (request_lent into state request) → BringsNothing request
lent_brings_nothing state (Some into) request h = cc
lent_brings_nothing state None (set name value) h = cc
lent_brings_nothing state None (extend source) h = cc
lent_brings_nothing state None request h = tt

pub returns-in_err-read_line-clause-lent : goal.returns-in_err-read_line-clause-lent
returns-in_err-read_line-clause-lent g c = λ command says free some.
    let nothing = lent_brings_nothing c.args.context.now command.into command.request some in
    absurd (cc (c.in_err-read_line.ensures.free (inr (inr (inr (free, (command, says, nothing)))))))
