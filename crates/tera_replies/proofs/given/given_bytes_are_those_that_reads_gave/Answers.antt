-- The log grew by what each read gave.
use Rattle.std.proofs.Common.{◌≡◌, ℕ, List, [], ◌∷◌, ◌++◌, Ok, inl, inr, sym, ◌∙◌, ap, subst, append_assoc, append-nil, None}
use Rattle.std.specs.List.{FoldsTo, flat_map}
use Rattle.tera_replies.specs.Log.{logs}
use Rattle.tera_replies.specs.Replay.{Replays, WereGiven}
use Rattle.tera_replies.specs.Source.{Giving, given_by, Reads}
use Rattle.tera_replies.specs.Streams.{just_these, reads}
use Rattle.tera_replies.proofs.given.given_bytes_are_those_that_reads_gave.Goals as goal

logged : (attempts : List Giving) (old new : List ℕ) → FoldsTo (λ s a t. logs s a.piece (Ok a.count) t) old attempts new
    → new ≡ old ++ flat_map given_by attempts
logged [] old new e = sym e ∙ sym (append-nil old)
logged (a ∷ more) old new (mid, one, later) =
    logged more mid new later ∙ ap (λ (bs : List ℕ). bs ++ flat_map given_by more) one ∙ append_assoc old (given_by a) (flat_map given_by more)

reads_logged : (old bytes new : List ℕ) → Reads logs old bytes new → new ≡ old ++ bytes
reads_logged old bytes new r = logged r.attempts old new r.calls ∙ ap (λ (bs : List ℕ). old ++ bs) r.whole

grown : (old given new : List ℕ) → WereGiven (reads logs old new) given → new ≡ old ++ given
grown old given new (inl (before, last, is, inl (none, also, same))) =
    same ∙ sym (append-nil old) ∙ ap (λ (bs : List ℕ). old ++ bs) (sym (is ∙ (λ i. none i ++ also i)))
grown old given new (inl (before, last, is, inr (mid, one, steps, told, ends))) =
    told ∙ (λ i. reads_logged old before mid steps i ++ sym ends i) ∙ append_assoc old before last ∙ ap (λ (bs : List ℕ). old ++ bs) (sym is)
grown old given new (inr (inl (mid, piece, room, steps, told))) = told ∙ append-nil mid ∙ reads_logged old given mid steps
grown old given new (inr (inr (mid, piece, fault, steps, told))) = told ∙ reads_logged old given mid steps

pub returns : goal.returns
returns c = record {
  grows = grown;
  replays = λ new out broken err status (given, consumed, were, replays).
      subst (λ (bytes : List ℕ). Replays bytes None (reads logs [] new) (just_these out broken err) status) (sym (grown [] given new were)) replays;
}
