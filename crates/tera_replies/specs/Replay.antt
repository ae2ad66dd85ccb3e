-- What a replay writes, and the status with which it ends.
use Rattle.std.specs.Prelude.{◌≡◌, ℕ, ◌+◌, ◌-◌, ◌^◌, ◌≤◌, ◌<◌, ◌⊎◌, Bool, true, false, List, []}
use Rattle.std.specs.Prelude.{◌++◌, map, length, codes, decimal, Option, None, Some, IsSome}
use Rattle.std.specs.Prelude.{if◌then◌else◌, IfSome}
use Rattle.std.specs.List.{list_any}
use Rattle.std.specs.FinMap.{empty}
use Rattle.std.specs.Str.{chars, is_utf8}
use Rattle.std.specs.Io.KnownBytes.{Consumes}
use Rattle.tera_report.specs.declared.span.Span.{Span}
use Rattle.tera_meaning.specs.State.{State}
use Rattle.tera_meaning.specs.Outcome.{Outcome, is_want}
use Rattle.tera_meaning.specs.Request.{Command}
use Rattle.tera_meaning.specs.Run.{IsRun}
use Rattle.tera_report.specs.Report.{Report, report_text}
use Rattle.tera_replies.specs.Script.{BadLine, Splits, Script, without_return, last_line, ended}
use Rattle.tera_replies.specs.Reply.{AreReplies}
use Rattle.tera_replies.specs.Source.{MayErr}
use Rattle.tera_replies.specs.Streams.{Input, Streams, reads, untold}
use Rattle.tera_replies.specs.declared.source.Source.{Ghosts}

-- some answer was want of memory. No other refusal counts
abbrev pub wants_memory : List Outcome → Bool
wants_memory outcomes = list_any is_want outcomes

-- what the lines say up to the first bad line, from an empty context on, comes to these outcomes
pub record AreAnswered (lines : List (List ℕ)) (bad : Option BadLine) (outcomes : List Outcome)
    : Type 0 where
  pub commands : List Command
  pub state : State
  pub script : Script 1 lines commands bad
  pub run : IsRun empty commands outcomes state

-- what of a bad line its report shows: all of it, and nothing where it is no UTF-8
abbrev pub source_of : List ℕ → List ℕ
source_of line = if is_utf8 line then line else []

-- from the first character of the report's one line to its end
abbrev pub whole_line : List ℕ → Span
whole_line source =
    record {
      start_line = 1;
      start_col = 0;
      end_line = 1;
      end_col = length (chars source);
      range = record { start = 0; end = length source };
    }

-- the report of a bad line
abbrev pub line_report : BadLine → Report
line_report bad =
    record {
      message = codes "bad line";
      file = codes "line " ++ decimal bad.number;
      source = source_of bad.line;
      span = whole_line (source_of bad.line);
      notes = [];
    }

-- what the program writes about a bad line
abbrev pub report : Option BadLine → List ℕ
report None = []
report (Some bad) = ended (report_text (line_report bad))

abbrev pub status_of : Option BadLine → List Outcome → ℕ
status_of None outcomes = if wants_memory outcomes then 1 else 0
status_of (Some bad) outcomes = 2

-- the lines that a source gives whole. What follows the last line feed is one too, unless the
-- source fails there
abbrev pub lines_given : Option Bool → List (List ℕ) → List ℕ → List (List ℕ)
lines_given (Some true) lines part = map without_return lines
lines_given (Some false) lines part = map without_return lines ++ last_line part
lines_given None lines part = map without_return lines ++ last_line part

-- the bytes hold fewer whole lines than n
abbrev pub HoldFewer : List ℕ → ℕ → Type 0
HoldFewer bytes n =
    (lines : List (List ℕ)) × (part : List ℕ) × Splits bytes lines part × (length lines < n)

-- the bad line is among those that these bytes hold whole
abbrev pub IsWholeIn : List ℕ → Option BadLine → Type 0
IsWholeIn given None = ⊥
IsWholeIn given (Some bad) =
    (lines : List (List ℕ)) × (part : List ℕ) × Splits given lines part
    × (bad.number ≤ length lines)

-- the bad line, if there is one, is not among these
abbrev pub IsBehind : List ℕ → Option BadLine → Type 0
IsBehind given None = Unit {0}
IsBehind given (Some bad) = HoldFewer given bad.number

-- Reads gave all of the bytes and then the end, and no line that has a line feed is bad; or they
-- gave some, and the last of them made the bad line whole. No other read was made.
abbrev pub ReadEnough : List ℕ → Option BadLine → Input → Type 0
ReadEnough bytes bad input =
    (input.ended bytes × IsBehind bytes bad)
    ⊎ ((before : List ℕ) × (last : List ℕ) × (rest : List ℕ) × (bytes ≡ (before ++ last) ++ rest)
    × input.gave before last × IsBehind before bad × IsWholeIn (before ++ last) bad)

-- The input ended, or a line that was given whole is bad: each line up to there is answered.
pub record AllAnswered (bytes : List ℕ) (fails : Option Bool) (input : Input) (out err : List ℕ)
    (status : ℕ) : Type 0 where
  pub lines : List (List ℕ)
  pub part : List ℕ
  pub bad : Option BadLine
  pub outcomes : List Outcome
  pub split : Splits bytes lines part
  pub answers : AreAnswered (lines_given fails lines part) bad outcomes
  pub ended : fails ≡ Some true → IsSome bad
  pub read : ReadEnough bytes bad input
  pub replied : AreReplies outcomes out
  pub err_is : err ≡ report bad
  pub status_is : status ≡ status_of bad outcomes

-- Reads gave some of the bytes, and then one failed, or they went on past their bound: each line
-- that was given whole is answered.
pub record ReadingFailed (bytes : List ℕ) (fails : Option Bool) (input : Input)
    (out err : List ℕ) (status : ℕ) : Type 0 where
  pub given : List ℕ
  pub rest : List ℕ
  pub lines : List (List ℕ)
  pub part : List ℕ
  pub outcomes : List Outcome
  pub front : bytes ≡ given ++ rest
  pub cause : (MayErr fails (Some rest) × input.failed given)
      ⊎ ((2 ^ 64 - 1 ≤ length given)
      × ((before : List ℕ) × (last : List ℕ) × (given ≡ before ++ last) × input.gave before last))
  pub split : Splits given lines part
  pub answers : AreAnswered (map without_return lines) None outcomes
  pub replied : AreReplies outcomes out
  pub err_is : err ≡ codes "error: reading failed\n"
  pub status_is : status ≡ 1

-- Reads gave some of the bytes, or all and the end, and the program itself found no memory: the
-- first of the lines that were given whole are answered, among them each that was whole before the
-- last read.
pub record MemoryFailed (bytes : List ℕ) (input : Input) (out err : List ℕ) (status : ℕ)
    : Type 0 where
  pub before : List ℕ
  pub last : List ℕ
  pub rest : List ℕ
  pub lines : List (List ℕ)
  pub part : List ℕ
  pub first : List (List ℕ)
  pub later : List (List ℕ)
  pub outcomes : List Outcome
  pub front : bytes ≡ (before ++ last) ++ rest
  pub read : input.gave before last ⊎ ((last ≡ []) × (rest ≡ []) × input.ended before)
  pub split : Splits (before ++ last) lines part
  pub lines_are : map without_return lines ≡ first ++ later
  pub prompt : HoldFewer before (1 + length first)
  pub answers : AreAnswered first None outcomes
  pub replied : AreReplies outcomes out
  pub err_is : err ≡ codes "error: Out of memory\n"
  pub status_is : status ≡ 1

-- The output was to get these replies, and broke. They are to the first of the lines that were
-- given whole or, where the end was told, of all lines. Each line that was whole before the last
-- read is among these, and was not bad.
pub record WritingFailed (bytes : List ℕ) (fails : Option Bool) (input : Input) (out : List ℕ)
    : Type 0 where
  pub before : List ℕ
  pub last : List ℕ
  pub rest : List ℕ
  pub lines : List (List ℕ)
  pub part : List ℕ
  pub first : List (List ℕ)
  pub later : List (List ℕ)
  pub bad : Option BadLine
  pub outcomes : List Outcome
  pub front : bytes ≡ (before ++ last) ++ rest
  pub read : input.gave before last
      ⊎ ((last ≡ [])
      × (((rest ≡ []) × input.ended before) ⊎ (MayErr fails (Some rest) × input.failed before)))
  pub split : Splits (before ++ last) lines part
  pub lines_are : (map without_return lines ≡ first ++ later)
      ⊎ ((last ≡ []) × (rest ≡ []) × input.ended before
      × (lines_given fails lines part ≡ first ++ later))
  pub prompt : HoldFewer before (1 + length first)
  pub fresh : IsBehind before bad
  pub answers : AreAnswered first bad outcomes
  pub replied : AreReplies outcomes out

-- Of a source with these bytes: the program writes out and err, and ends with this status.
abbrev pub Writes : List ℕ → Option Bool → Input → List ℕ → List ℕ → ℕ → Type 0
Writes bytes fails input out err status =
    AllAnswered bytes fails input out err status
    ⊎ (ReadingFailed bytes fails input out err status ⊎ MemoryFailed bytes input out err status)

-- The program is done with such a source: `out` got what it writes there and `err` its own; or
-- `out` broke on what it was to get, and `err` got the text for that.
abbrev pub Replays : List ℕ → Option Bool → Input → Streams → ℕ → Type 0
Replays bytes fails input streams status =
    ((out : List ℕ) × (err : List ℕ) × Writes bytes fails input out err status
    × streams.out_gets out × streams.err_gets err)
    ⊎ ((out : List ℕ) × WritingFailed bytes fails input out × streams.out_broke out
    × (status ≡ 1) × streams.err_gets (codes "error: writing failed\n"))

-- A script of these bytes is answered by out and err, with this status. Of reads nothing is said.
abbrev pub IsAnswered : List ℕ → List ℕ → List ℕ → ℕ → Type 0
IsAnswered bytes out err status = AllAnswered bytes None untold out err status

-- Where the bytes of a source are known: the program is done with them.
abbrev pub ReplaysKnown : {S : Type 0} → Ghosts S → S → Input → Streams → ℕ → Type 0
ReplaysKnown source old input streams status =
    IfSome (source.left old) (λ bytes. Replays bytes (source.fails old) input streams status)

-- reads gave just these bytes, or these and then an end or an error, and no other read was made
abbrev pub WereGiven : Input → List ℕ → Type 0
WereGiven input given =
    ((before : List ℕ) × (last : List ℕ) × (given ≡ before ++ last) × input.gave before last)
    ⊎ (input.ended given ⊎ input.failed given)

-- Of any source: the reads that led it from old to new gave just these bytes, which are the first
-- of what it had, where that is known, and the program is done with them. Nothing is supposed of
-- the source.
abbrev pub ReplaysGiven : {S : Type 0} → Ghosts S → S → S → Streams → ℕ → Type 0
ReplaysGiven source old new streams status =
    (given : List ℕ) × Consumes (source.left old) (source.left new) given
    × WereGiven (reads source.gave old new) given
    × Replays given (source.fails old) (reads source.gave old new) streams status
