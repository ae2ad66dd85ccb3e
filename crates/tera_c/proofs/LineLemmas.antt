-- What is given as a line, cut at its first line feed; and lines that are skipped.
use Rattle.std.proofs.Common.{◌≡◌, ◌≢◌, ℕ, Bool, false, ◌⊎◌, inl, inr, List, [], ◌∷◌, ◌++◌, length, sym, subst, ap, ◌∙◌, refl}
use Rattle.std.proofs.Common.{None, append_assoc, append-nil, arith}
use Rattle.std.proofs.lemmas.List.Elements.{All-cons, All-nil}
use Rattle.std.specs.List.{flat_map}
use Rattle.tera_meaning.specs.Outcome.{Outcome}
use Rattle.tera_meaning.specs.Request.{Command}
use Rattle.tera_meaning.specs.Run.{IsRun}
use Rattle.tera_meaning.specs.State.{State}
use Rattle.tera_script.specs.Line.{IsSkipped, Says}
use Rattle.tera_replies.specs.Replay.{wants_memory}
use Rattle.tera_replies.specs.Script.{HasNoLineFeed, Script, Splits, ended, line_feed, without_return}
use Rattle.tera_replies.specs.Stretch.{Runs}
use Rattle.tera_c.specs.Lines.{IsLineOf, BreaksBehind}

has_first : {X : Type 0} (x : X) (xs : List X) → x ∷ xs ≢ []
has_first x xs is = omega (arith, ap length is)

-- a line feed at the end of the bytes
pub whole_line : (given first later : List ℕ) {line : List ℕ} → HasNoLineFeed first × (given ≡ ended first ++ later) → length later ≡ 0
    → line ≡ without_return first → IsLineOf given line
whole_line given first (b ∷ later) parts none trims = absurd (omega (arith, none))
whole_line given first [] (free, cut) none trims =
    inr (
      first,
      record {
        whole = cut ∙ ap (λ (bytes : List ℕ). bytes ++ []) (sym (append-nil (ended first)));
        each = All-cons HasNoLineFeed first [] free (All-nil HasNoLineFeed);
        rest = All-nil (λ byte. byte ≢ line_feed);
      },
      trims,
    )

some_left : (lines : List (List ℕ)) (part : List ℕ) (b : ℕ) (later : List ℕ) → b ∷ later ≡ flat_map ended lines ++ part
    → (lines ≢ []) ⊎ (part ≢ [])
some_left (line ∷ lines) part b later whole = inl (has_first line lines)
some_left [] [] b later whole = absurd (has_first b later whole)
some_left [] (p ∷ part) b later whole = inr (has_first p part)

-- a line feed before the end of the bytes
pub broken_line : ((bytes : List ℕ) → (lines : List (List ℕ)) × (part : List ℕ) × Splits bytes lines part) → (given first later : List ℕ)
    → HasNoLineFeed first × (given ≡ ended first ++ later) → ¬ (length later ≡ 0) → BreaksBehind given first
broken_line splits given first [] parts some = absurd (some refl)
broken_line splits given first (b ∷ later) (free, cut) some =
    let (lines, part, split) = splits (b ∷ later) in (
      lines,
      part,
      record {
        whole = cut ∙ ap (λ (bytes : List ℕ). ended first ++ bytes) split.whole ∙ sym (append_assoc (ended first) (flat_map ended lines) part);
        each = All-cons HasNoLineFeed first lines free split.each;
        rest = split.rest;
      },
      some_left lines part b later split.whole,
    )

says_none : ((line : List ℕ) (command : Command) → IsSkipped line → ¬ Says line command) → (n : ℕ) (line : List ℕ) (commands : List Command)
    → Script n (line ∷ []) commands None → IsSkipped line → commands ≡ []
says_none silent n line commands (inl (skips, none)) skip = none.0
says_none silent n line commands (inr (inl (first, later, says, is, more))) skip = absurd (silent line first skip says)
says_none silent n line commands (inr (inr (bad, none, ends))) skip = none

none_wanted : (old new : State) (commands : List Command) (outcomes : List Outcome) → commands ≡ [] → IsRun old commands outcomes new
    → wants_memory outcomes ≡ false
none_wanted old new commands [] is run = refl
none_wanted old new commands (outcome ∷ outcomes) is run = absurd (subst (λ (cs : List Command). IsRun old cs (outcome ∷ outcomes) new) is run)

-- what a line that is skipped is answered by wants no memory
pub skipped_wants_none : ((line : List ℕ) (command : Command) → IsSkipped line → ¬ Says line command) → (n : ℕ) (old new : State)
    (line text : List ℕ) (want : Bool) → Runs n old (line ∷ []) text want new → IsSkipped line → want ≡ false
skipped_wants_none silent n old new line text want r skip =
    r.wanted_is ∙ none_wanted old new r.commands r.outcomes (says_none silent n line r.commands r.script skip) r.run
