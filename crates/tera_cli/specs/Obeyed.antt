-- What a line of a conversation does.
use Rattle.std.specs.Prelude.{◌≡◌, ◌≢◌, ◌⊎◌, ℕ, Bool, true, false, List, ◌++◌, codes}
use Rattle.std.specs.FinMap.{empty}
use Rattle.tera_cli.specs.Faults.{no_file, no_such_word}
use Rattle.tera_cli.specs.Names.{Lists}
use Rattle.tera_cli.specs.Order.{IsOrder}
use Rattle.tera_cli.specs.Saved.{SavesNamed}
use Rattle.tera_cli.specs.Conversation.{IsLine, IsTold, Leaves, Replies}
use Rattle.tera_cli.specs.declared.order.Order.{Order}
use Rattle.tera_cli.specs.declared.order.Order.TheVariants.{Answer, Help, Load, LoadNone}
use Rattle.tera_cli.specs.declared.order.Order.TheVariants.{Names, Quit, Save, SaveNone, Unknown}
use Rattle.tera_meaning.specs.State.{State}
use Rattle.tera_replies.specs.Output.{TakesOrFails}
use Rattle.tera_report.specs.Sink.{Delivers, Sends}

-- the files, where answers go, where the rest is told, and what the names mean
pub record Scene (F W E : Type 0) : Type 0 where
  pub files : F
  pub out : W
  pub err : E
  pub names : State

-- what `:help` shows
abbrev pub help : List ℕ
help =
    codes ":help       shows these words\n"
    ++ (codes ":load FILE  answers the script in a file, up to the first bad line\n"
    ++ (codes ":names      shows the names, one a line and in order\n"
    ++ (codes ":quit       ends the conversation\n"
    ++ codes ":save FILE  writes a script that makes the names and their values\n")))

-- nothing has changed but what was told
abbrev pub IsQuiet : {F W E : Type 0} → Scene F W E → Scene F W E → Type 0
IsQuiet old new = (new.files ≡ old.files) × (new.out ≡ old.out) × (new.names ≡ old.names)

-- nothing has changed but what was answered
abbrev pub IsUntold : {F W E : Type 0} → Scene F W E → Scene F W E → Type 0
IsUntold old new = (new.files ≡ old.files) × (new.err ≡ old.err) × (new.names ≡ old.names)

module _ {F W E : Type 0} (wrote : F → List ℕ → List ℕ → Bool → F → Type 0)
    (takes : W → List ℕ → W → Type 0) (flushes : W → W → Type 0)
    (told untold : E → List ℕ → E → Type 0) (why : Bool) (number : ℕ) (line : List ℕ) where
  -- a text was told, and nothing else has changed
  abbrev pub Tells : List ℕ → Scene F W E → Scene F W E → Type 0
  Tells text old new = IsQuiet old new × TakesOrFails told untold old.err text new.err

  -- the line was answered as one of a script, or why not was told
  abbrev pub IsAnswered : Scene F W E → Scene F W E → Type 0
  IsAnswered old new = (new.files ≡ old.files)
      × ((Replies (Delivers takes flushes) number old.names line old.out new.out new.names
      × (new.err ≡ old.err))
      ⊎ IsTold (Sends takes flushes) (TakesOrFails told untold) why number old.names line old.out
      new.out old.err new.err new.names)

  -- the names were shown; or no memory was found for their list, which is told
  abbrev pub IsListed : Scene F W E → Scene F W E → Type 0
  IsListed old new =
      (IsUntold old new × Lists (Delivers takes flushes) old.names old.out new.out)
      ⊎ ((old.names ≢ empty) × Tells (codes "error: Out of memory\n") old new)

  -- what was asked for was done, where no write of an answer failed. Of a file that is loaded this
  -- says that no file was written
  abbrev pub Obeys : Order → Scene F W E → Scene F W E → Type 0
  Obeys Answer old new = IsAnswered old new
  Obeys Quit old new = new ≡ old
  Obeys Help old new = IsUntold old new × Delivers takes flushes old.out help new.out
  Obeys Names old new = IsListed old new
  Obeys (Load name) old new = new.files ≡ old.files
  Obeys LoadNone old new = Tells (no_file (codes ":load")) old new
  Obeys (Save name) old new = (new.out ≡ old.out) × (new.names ≡ old.names)
      × SavesNamed wrote told untold old.names name.now old.files old.err new.files new.err
  Obeys SaveNone old new = Tells (no_file (codes ":save")) old new
  Obeys Unknown old new = Tells no_such_word old new

-- a conversation goes on behind every order but one
abbrev pub goes_on_behind : Order → Bool
goes_on_behind Quit = false
goes_on_behind Answer = true
goes_on_behind Help = true
goes_on_behind Names = true
goes_on_behind (Load name) = true
goes_on_behind LoadNone = true
goes_on_behind (Save name) = true
goes_on_behind SaveNone = true
goes_on_behind Unknown = true

-- no line came, and the prompt's own line is ended; or what was heard is a line, and what it asks
-- for was done
abbrev pub IsTurn : {F W E : Type 0} → (E → List ℕ → E → Type 0)
    → (List ℕ → Order → Scene F W E → Scene F W E → Type 0) → List ℕ → Type 0 → List ℕ → Bool
    → Scene F W E → Scene F W E → Type 0
IsTurn ErrGets Does prompt AtEnd heard goes_on old new =
    (AtEnd × (goes_on ≡ false) × IsQuiet old new × Leaves ErrGets prompt old.err new.err)
    ⊎ ((line : List ℕ) × (order : Order) × IsLine heard line × IsOrder line order
    × (goes_on ≡ goes_on_behind order) × Does line order old new)
