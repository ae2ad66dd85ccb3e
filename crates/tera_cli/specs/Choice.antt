-- What the words of a command line choose.
use Rattle.std.specs.Prelude.{◌≡◌, ◌⊎◌, ℕ, List, Bool, true, false, Some, None, is_some, codes}
use Rattle.clap.specs.Words.{found_of, matched_of, one_text}
use Rattle.clap.specs.declared.error.kind.ErrorKind.{ErrorKind}
use Rattle.clap.specs.declared.error.kind.ErrorKind.TheVariants.{DisplayHelp, DisplayVersion}
use Rattle.clap.specs.declared.parser.matches.ArgMatches.{ArgMatches}

-- what may be asked for: a conversation, and what was expected of bad lines
abbrev pub interactive : List ℕ
interactive = codes "interactive"

abbrev pub reasons : List ℕ
reasons = codes "why"

-- words that are understood ask for it, or not
abbrev pub Asks : ArgMatches → List ℕ → Bool → Type 0
Asks matches flag true = one_text (found_of matches) flag ≡ Some (codes "true")
Asks matches flag false = (one_text (found_of matches) flag ≡ Some (codes "false"))
    ⊎ (one_text (found_of matches) flag ≡ None)

-- whether they name a file
abbrev pub names_file : ArgMatches → Bool
names_file matches = is_some (matched_of (found_of matches) (codes "FILE"))

-- an error of this kind is no error: the help or the version was asked for
abbrev pub IsShown : ErrorKind → Type 0
IsShown kind = (kind ≡ DisplayHelp) ⊎ (kind ≡ DisplayVersion)
