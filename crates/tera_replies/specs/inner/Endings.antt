-- How answering ended, and what is told of it.
use Rattle.std.specs.Prelude.{◌≡◌, ◌≢◌, ℕ, ◌⊎◌, Bool, List, [], codes, Option, Result, Ok, Err}
use Rattle.std.specs.Prelude.{if◌then◌else◌, IfSome, ⊤}
use Rattle.std.specs.Io.KnownBytes.{Consumes}
use Rattle.tera_meaning.specs.Outcome.{Outcome, is_want}
use Rattle.tera_meaning.specs.Request.{Command}
use Rattle.tera_meaning.specs.State.{State}
use Rattle.tera_meaning.specs.Step.{IsStep}
use Rattle.tera_report.specs.Errors.{report_of}
use Rattle.tera_report.specs.Report.{report_text}
use Rattle.tera_replies.specs.declared.fault.Fault.{Fault}
use Rattle.tera_replies.specs.declared.fault.Fault.TheVariants.{BadLine, ReadFailed, WriteFailed}
use Rattle.tera_replies.specs.declared.fault.Fault.TheVariants.{OutOfMemory}
use Rattle.tera_replies.specs.Replay.{AllAnswered, ReadingFailed, MemoryFailed, WritingFailed}
use Rattle.tera_replies.specs.Replay.{WereGiven, line_report}
use Rattle.tera_replies.specs.Reply.{IsReplyLine}
use Rattle.tera_replies.specs.Script.{ended}
use Rattle.tera_replies.specs.Streams.{Input, reads}
use Rattle.tera_replies.specs.Stretch.{bad_at}
use Rattle.tera_replies.specs.declared.source.Source.{Ghosts}

-- what stands where a fault ended the writing of a reply: a failed write alone does
abbrev pub ReplyStops : (List ℕ → Type 0) → (List ℕ → Type 0) → Fault → Type 0
ReplyStops Replies OutBroke (BadLine report) = ⊥
ReplyStops Replies OutBroke ReadFailed = ⊥
ReplyStops Replies OutBroke WriteFailed = (line : List ℕ) × Replies line × OutBroke line
ReplyStops Replies OutBroke OutOfMemory = ⊥

-- what answers a call, and whether it is want of memory, where a step went from old to new
abbrev pub AnswersCall : Command → State → State → List ℕ → Bool → Type 0
AnswersCall command old new reply wanted =
    (outcome : Outcome) × IsStep old command outcome new × IsReplyLine outcome reply
    × (wanted ≡ is_want outcome)

-- why a bad line is not answered: its report, or want of memory for that
abbrev pub IsBadLineFault : ℕ → List ℕ → Fault → Type 0
IsBadLineFault n line (BadLine report) = report_of report.value ≡ line_report (bad_at n line)
IsBadLineFault n line ReadFailed = ⊥
IsBadLineFault n line WriteFailed = ⊥
IsBadLineFault n line OutOfMemory = ⊤

-- how answering all of the input went: whether memory was wanted by an answer, or a fault
abbrev pub Ends : List ℕ → Option Bool → Input → (List ℕ → Type 0) → (List ℕ → Type 0)
    → Result Bool Fault → Type 0
Ends bytes fails input OutGets OutBroke (Ok wanted) =
    (out : List ℕ) × AllAnswered bytes fails input out [] (if wanted then 1 else 0) × OutGets out
Ends bytes fails input OutGets OutBroke (Err (BadLine report)) =
    (out : List ℕ)
    × AllAnswered bytes fails input out (ended (report_text (report_of report.value))) 2
    × OutGets out
Ends bytes fails input OutGets OutBroke (Err ReadFailed) =
    (out : List ℕ)
    × ReadingFailed bytes fails input out (codes "error: reading failed\n") 1 × OutGets out
Ends bytes fails input OutGets OutBroke (Err WriteFailed) =
    (out : List ℕ) × WritingFailed bytes fails input out × OutBroke out
Ends bytes fails input OutGets OutBroke (Err OutOfMemory) =
    (out : List ℕ) × MemoryFailed bytes input out (codes "error: Out of memory\n") 1 × OutGets out

-- the same where the bytes of a source are known
abbrev pub EndsKnown : {S : Type 0} → Ghosts S → S → S → (List ℕ → Type 0) → (List ℕ → Type 0)
    → Result Bool Fault → Type 0
EndsKnown source old new OutGets OutBroke result =
    IfSome (source.left old)
    (λ bytes. Ends bytes (source.fails old) (reads source.gave old new) OutGets OutBroke result)

-- and of any source, whose reads gave the bytes
abbrev pub EndsGiven : {S : Type 0} → Ghosts S → S → S → (List ℕ → Type 0) → (List ℕ → Type 0)
    → Result Bool Fault → Type 0
EndsGiven source old new OutGets OutBroke result =
    (given : List ℕ) × Consumes (source.left old) (source.left new) given
    × WereGiven (reads source.gave old new) given
    × Ends given (source.fails old) (reads source.gave old new) OutGets OutBroke result

-- a last flush went well and left the ending as it was, or it failed; there is none where writing
-- has failed
abbrev pub EndsFlushed : {S : Type 0} → (S → S → Type 0) → (S → S → Type 0)
    → Result Bool Fault → Result Bool Fault → S → S → Type 0
EndsFlushed flushes flush_fails ending result old new =
    ((result ≡ Err WriteFailed) × (ending ≡ Err WriteFailed) × (new ≡ old))
    ⊎ (((result ≡ ending) × (ending ≢ Err WriteFailed) × flushes old new)
    ⊎ ((result ≡ Err WriteFailed) × (ending ≢ Err WriteFailed) × flush_fails old new))

-- what is written about the end
abbrev pub told : Result Bool Fault → List ℕ
told (Ok wanted) = []
told (Err (BadLine report)) = ended (report_text (report_of report.value))
told (Err ReadFailed) = codes "error: reading failed\n"
told (Err WriteFailed) = codes "error: writing failed\n"
told (Err OutOfMemory) = codes "error: Out of memory\n"

abbrev pub status_at : Result Bool Fault → ℕ
status_at (Ok wanted) = if wanted then 1 else 0
status_at (Err (BadLine report)) = 2
status_at (Err ReadFailed) = 1
status_at (Err WriteFailed) = 1
status_at (Err OutOfMemory) = 1
