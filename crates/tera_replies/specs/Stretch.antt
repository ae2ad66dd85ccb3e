-- How one line, or several, are run and answered, and a stretch of a script.
use Rattle.std.specs.Prelude.{◌≡◌, ℕ, ◌+◌, Bool, false, ◌||◌, List, [], ◌∷◌, ◌++◌, map, length, All}
use Rattle.std.specs.Prelude.{None}
use Rattle.std.specs.FinMap.{empty}
use Rattle.std.specs.List.{flat_map}
use Rattle.tera_meaning.specs.State.{State}
use Rattle.tera_meaning.specs.Outcome.{Outcome}
use Rattle.tera_meaning.specs.Request.{Command}
use Rattle.tera_meaning.specs.Run.{IsRun}
use Rattle.tera_report.specs.Errors.{report_of}
use Rattle.tera_report.specs.Report.{Report}
use Rattle.tera_replies.specs.declared.fault.Fault.{Fault}
use Rattle.tera_replies.specs.declared.fault.Fault.TheVariants.{BadLine, ReadFailed, WriteFailed}
use Rattle.tera_replies.specs.declared.fault.Fault.TheVariants.{OutOfMemory}
use Rattle.tera_script.specs.Line.{IsBad}
use Rattle.tera_replies.specs.Script.{BadLine as Bad, Script, HasNoLineFeed, without_return}
use Rattle.tera_replies.specs.Script.{ended, line_feed}
use Rattle.tera_replies.specs.Reply.{AreReplies}
use Rattle.tera_replies.specs.Replay.{wants_memory, line_report}

-- the bad line of that number
abbrev pub bad_at : ℕ → List ℕ → Bad
bad_at n line = record { number = n; line = line }

-- None of the lines, numbered from n on, is bad, and the text answers a run over what they say.
pub record Runs (n : ℕ) (old : State) (lines : List (List ℕ)) (text : List ℕ) (wanted : Bool)
    (new : State) : Type 0 where
  pub commands : List Command
  pub outcomes : List Outcome
  pub script : Script n lines commands None
  pub run : IsRun old commands outcomes new
  pub replied : AreReplies outcomes text
  pub wanted_is : wanted ≡ wants_memory outcomes

-- what stands where a fault ended one line, numbered n, and left the state new: after a failed
-- write that of the run whose reply was to be written
abbrev pub LineStops : ℕ → State → List ℕ → State → Type 0 → (List ℕ → Type 0) → Fault → Type 0
LineStops n old line new OutStays OutBroke (BadLine report) =
    (report_of report.value ≡ line_report (bad_at n line)) × IsBad line × OutStays
LineStops n old line new OutStays OutBroke ReadFailed = ⊥
LineStops n old line new OutStays OutBroke WriteFailed =
    (text : List ℕ) × (wanted : Bool) × Runs n old (line ∷ []) text wanted new × OutBroke text
LineStops n old line new OutStays OutBroke OutOfMemory = OutStays

-- Where a replay stands between two bytes: the number of the line at hand and what was read of it,
-- the state, and whether an answer so far was want of memory.
pub record Place : Type 0 where
  pub number : ℕ
  pub part : List ℕ
  pub state : State
  pub wanted : Bool

abbrev pub start : Place
start = record { number = 1; part = []; state = empty; wanted = false }

-- From one place to another these bytes were read, and answered by the text.
pub record Goes (old : Place) (bytes text : List ℕ) (new : Place) : Type 0 where
  pub lines : List (List ℕ)
  pub wanted : Bool
  pub split : old.part ++ bytes ≡ flat_map ended lines ++ new.part
  pub each : All HasNoLineFeed lines
  pub rest : HasNoLineFeed new.part
  pub number_is : new.number ≡ old.number + length lines
  pub wanted_is : new.wanted ≡ (old.wanted || wanted)
  pub runs : Runs old.number old.state (map without_return lines) text wanted new.state

-- From a place these bytes were read up to a bad line, of which this is the report, and answered by
-- the text.
pub record StopsAtBad (old : Place) (bytes : List ℕ) (report : Report) (text : List ℕ)
    : Type 0 where
  pub read : List ℕ
  pub unread : List ℕ
  pub place : Place
  pub bytes_are : bytes ≡ read ++ line_feed ∷ unread
  pub goes : Goes old read text place
  pub bad : IsBad (without_return place.part)
  pub report_is : report ≡ line_report (bad_at place.number (without_return place.part))

-- From a place a beginning of these bytes was read, and answered by the text.
pub record Begins (old : Place) (bytes : List ℕ) (text : List ℕ) : Type 0 where
  pub read : List ℕ
  pub unread : List ℕ
  pub place : Place
  pub bytes_are : bytes ≡ read ++ unread
  pub goes : Goes old read text place

-- what stands where a fault ended the stretch
abbrev pub Stops : Place → List ℕ → (List ℕ → Type 0) → (List ℕ → Type 0) → Fault → Type 0
Stops old bytes OutGets OutBroke (BadLine report) =
    (text : List ℕ) × StopsAtBad old bytes (report_of report.value) text × OutGets text
Stops old bytes OutGets OutBroke ReadFailed = ⊥
Stops old bytes OutGets OutBroke WriteFailed =
    (text : List ℕ) × Begins old bytes text × OutBroke text
Stops old bytes OutGets OutBroke OutOfMemory =
    (text : List ℕ) × Begins old bytes text × OutGets text
