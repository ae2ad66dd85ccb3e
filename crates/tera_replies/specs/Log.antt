-- A source whose state is the log of what its reads gave.
use Rattle.std.specs.Prelude.{◌≡◌, ℕ, List, ◌++◌, take, None, Result, MatchResult}
use Rattle.tera_replies.specs.declared.source.ReadError.{ReadError}
use Rattle.tera_replies.specs.declared.source.Source.{Ghosts}

-- a read puts what it gave behind the log, and one that failed nothing
abbrev pub logs : List ℕ → List ℕ → Result ℕ ReadError → List ℕ → Type 0
logs old piece answer new =
    MatchResult answer (λ count. new ≡ old ++ take count piece) (λ fault. new ≡ old)

-- a source whose state is such a log: what it will give is not told, nor whether it fails then
abbrev pub logged : Ghosts (List ℕ)
logged = record { left = λ log. None; fails = λ log. None; gave = logs }
