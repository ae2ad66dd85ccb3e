-- How a conversation goes on by one line.
use Rattle.std.specs.Prelude.{◌≡◌, ◌≢◌, ℕ, ◌⊎◌, Bool, List, [], ◌∷◌, codes}
use Rattle.tera_cli.specs.Why.{TellsWhy}
use Rattle.tera_meaning.specs.State.{State}
use Rattle.tera_replies.specs.Replay.{line_report}
use Rattle.tera_replies.specs.Script.{ended, without_return}
use Rattle.tera_replies.specs.Stretch.{Runs, bad_at}
use Rattle.tera_report.specs.Report.{report_text}
use Rattle.tera_script.specs.Line.{IsBad}

-- the line was run over the names, and OutGets says what became of its answer
abbrev pub Replies : {W : Type 0} → (W → List ℕ → W → Type 0) → ℕ → State → List ℕ → W → W
    → State → Type 0
Replies OutGets n old line out out_new new =
    (text : List ℕ) × (wanted : Bool) × Runs n old (line ∷ []) text wanted new
    × OutGets out text out_new

-- The line is bad, which its report says, and what was expected where that is asked for; or no
-- memory was found to read or to report it, which is told. No name has changed, and there is no
-- answer.
abbrev pub IsTold : {W E : Type 0} → (W → List ℕ → W → Type 0) → (E → List ℕ → E → Type 0)
    → Bool → ℕ → State → List ℕ → W → W → E → E → State → Type 0
IsTold OutSends ErrGets why n old line out out_new err err_new new =
    (new ≡ old) × OutSends out [] out_new
    × ((IsBad line
    × TellsWhy ErrGets why line (ended (report_text (line_report (bad_at n line)))) err err_new)
    ⊎ ErrGets err (codes "error: Out of memory\n") err_new)

-- bytes that were read are this line: with its end behind it, or the last one
pub record IsLine (heard line : List ℕ) : Type 0 where
  pub whole : (front : List ℕ) → heard ≡ ended front → line ≡ without_return front
  pub last : ((front : List ℕ) → heard ≢ ended front) → line ≡ heard

-- where a line was asked for and none came, the prompt's line is ended, if there is a prompt
abbrev pub Leaves : {E : Type 0} → (E → List ℕ → E → Type 0) → List ℕ → E → E → Type 0
Leaves ErrGets prompt err err_new =
    ((prompt ≡ []) × (err_new ≡ err)) ⊎ ((prompt ≢ []) × ErrGets err (codes "\n") err_new)
