-- What is left ends the text, behind a front that stands for itself; it gets shorter.
use Rattle.std.proofs.Common.{◌≡◌, ◌++◌, ℕ, List, length}
use denote.Text.{Utf8}
use denote.Shadow.{shadow}
use Rattle.tera_report.specs.Quoted.{escapes}
use Rattle.tera_report.proofs.quote.split_marked.Given as goal

abbrev pub invariant-bare : goal.invariant-bare
invariant-bare l =
    shadow (Utf8 l.rest)
    × ((front : List ℕ) × (l.text ≡ front ++ l.rest) × (escapes front ≡ front))

abbrev pub decreases-bare : goal.decreases-bare
decreases-bare l = length l.rest
