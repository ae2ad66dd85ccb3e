-- How a session goes on by one line.
use Rattle.std.specs.Prelude.{◌≡◌, ℕ, ◌⊎◌, Bool, List, [], ◌∷◌, Option, None, IfSome, IsSome}
use Rattle.std.specs.Prelude.{IsSomeAnd, string_bytes, if◌then◌else◌}
use Rattle.std.specs.FinMap.{empty}
use Rattle.tera_report.specs.Report.{Report, report_text}
use Rattle.tera_context.specs.Lent.{lent_at}
use Rattle.tera_meaning.specs.Request.{Command}
use Rattle.tera_script.specs.Line.{HasNoEscape, IsBad, IsSkipped, Says}
use Rattle.tera_replies.specs.Replay.{line_report}
use Rattle.tera_replies.specs.Script.{ended}
use Rattle.tera_replies.specs.Stretch.{Runs, bad_at}
use Rattle.tera_c.specs.Lines.{IsLineOf, BreaksBehind, feed_report}
use Rattle.tera_c.specs.Status.{done, wanted, bad, no_memory, no_reply}
use Rattle.tera_c.specs.declared.session_state.SessionState.{SessionState}

-- the reply to the last line
abbrev pub reply_of : SessionState → List ℕ
reply_of inner = string_bytes inner.reply

-- no names, and no reply
abbrev pub IsFresh : SessionState → Type 0
IsFresh inner = (inner.context ≡ empty) × (reply_of inner ≡ [])

-- a closed session was opened; or no memory was found, and it is closed
abbrev pub Opens : Option SessionState → ℕ → Type 0
Opens new status =
    ((status ≡ done) × IsSomeAnd new IsFresh) ⊎ ((status ≡ no_memory) × (new ≡ None))

-- the line was run over the names, and answered by the text
abbrev pub Answers : SessionState → List ℕ → List ℕ → Bool → SessionState → Type 0
Answers old line text want new = Runs 1 old.context (line ∷ []) text want new.context

-- it was answered
abbrev pub IsAnswered : SessionState → List ℕ → SessionState → ℕ → Type 0
IsAnswered old line new status =
    (want : Bool) × Answers old line (reply_of new) want new
    × (status ≡ (if want then wanted else done))

-- it is bad: the reply is this report, with a line feed, and nothing else has changed
abbrev pub IsReported : Report → SessionState → SessionState → ℕ → Type 0
IsReported report old new status =
    (reply_of new ≡ ended (report_text report)) × (new.context ≡ old.context) × (status ≡ bad)

-- no memory was found to read it or to report it: nothing has changed, and there is no reply
abbrev pub IsPutOff : SessionState → SessionState → ℕ → Type 0
IsPutOff old new status =
    (new.context ≡ old.context) × (reply_of new ≡ []) × (status ≡ no_memory)

-- it was run, and no memory was found for its reply
abbrev pub HasNoReply : SessionState → List ℕ → SessionState → ℕ → Type 0
HasNoReply old line new status =
    ((text : List ℕ) × (want : Bool) × Answers old line text want new)
    × (reply_of new ≡ []) × (status ≡ no_reply)

-- what comes of a line
abbrev pub ComesOf : SessionState → List ℕ → SessionState → ℕ → Type 0
ComesOf old line new status =
    IsAnswered old line new status
    ⊎ ((IsBad line × IsReported (line_report (bad_at 1 line)) old new status)
    ⊎ (IsPutOff old new status
    ⊎ HasNoReply old line new status))

-- the line has no escape, and says a command for which the names lend an answer
abbrev pub FindsLent : SessionState → List ℕ → Type 0
FindsLent old line = HasNoEscape line
    × ((command : Command) × Says line command × IsSome (lent_at old.context command))

-- one line: where it is skipped it takes no memory, and where it finds what is lent no more than
-- its reply does
pub record Takes (old : SessionState) (line : List ℕ) (new : SessionState) (status : ℕ)
    : Type 0 where
  pub comes : ComesOf old line new status
  pub skipped : IsSkipped line → status ≡ done
  pub lent : FindsLent old line → (status ≡ done) ⊎ (status ≡ no_reply)

-- the bytes that were given are one line; or a line feed stands inside them, and they are bad
abbrev pub Hears : SessionState → List ℕ → SessionState → ℕ → Type 0
Hears old given new status =
    ((line : List ℕ) × IsLineOf given line × Takes old line new status)
    ⊎ ((first : List ℕ) × BreaksBehind given first
    × (IsReported (feed_report first) old new status ⊎ IsPutOff old new status))

-- where the session was open, it is so, and went on in this way
abbrev pub Goes : Option SessionState → (SessionState → SessionState → Type 0)
    → Option SessionState → Type 0
Goes old P new = IfSome old (λ inner. IsSomeAnd new (P inner))
