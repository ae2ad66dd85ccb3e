-- A replay of a short script over rooms with place for all that it may write.
use Rattle.std.proofs.Common.{◌≡◌, ℕ, ◌+◌, ◌*◌, ◌≤◌, ◌⊎◌, inl, inr, false, List, [], ◌∷◌, ◌++◌, length, map}
use Rattle.std.proofs.Common.{codes, Option, Some, sym, ◌∙◌, ap, subst, append-nil, arith, length-append}
use Rattle.std.specs.List.{AllZip, flat_map}
use Rattle.tera.specs.Outcome.{Outcome}
use Rattle.tera.specs.Request.{Command}
use Rattle.tera.specs.Room.{room_bytes, HasRoomFor, RoomTakes, RoomFails}
use Rattle.tera.specs.Run.{IsRun}
use Rattle.tera.specs.State.{State}
use Rattle.tera.specs.Step.{IsStep}
use Rattle.tera.specs.types.Room.{Room}
use Rattle.tera_replies.proofs.ReplayLaws.{first_of_all}
use Rattle.tera_replies.specs.Output.{TakesOrFails}
use Rattle.tera_replies.specs.Replay.{AllAnswered, Replays, WritingFailed}
use Rattle.tera_replies.specs.Streams.{Input, Streams}
use Rattle.tera_replies.specs.Reply.{IsReply}
use Rattle.tera_replies.specs.Script.{BadLine, Script, Splits, ended, last_line, line_feed, without_return}
use Rattle.tera_script.specs.Line.{Says}

-- whatever the line says, its reply is short
abbrev pub HasShortReply : List ℕ → Type 0
HasShortReply line = (command : Command) → Says line command → (old new : State) (outcome : Outcome) → IsStep old command outcome new
    → (reply : List ℕ) → IsReply outcome reply → length reply ≤ 20

abbrev pub HaveShortReplies : List (List ℕ) → Type 0
HaveShortReplies [] = Unit {0}
HaveShortReplies (line ∷ lines) = HasShortReply line × HaveShortReplies lines

-- the replies to so many lines are no longer than these at most
are_short : (lines : List (List ℕ)) → HaveShortReplies lines → (n : ℕ) (commands : List Command) (bad : Option BadLine) → Script n lines commands bad
    → (old new : State) (outcomes : List Outcome) → IsRun old commands outcomes new → (replies : List (List ℕ)) → AllZip IsReply outcomes replies
    → length (flat_map ended replies) ≤ 21 * length lines
are_short lines short n commands bad script old new [] run [] zip = omega arith
are_short lines short n commands bad script old new [] run (reply ∷ replies) zip = absurd zip
are_short lines short n commands bad script old new (o ∷ os) run [] zip = absurd zip
are_short [] short n commands bad (none, is) old new (o ∷ os) run (reply ∷ replies) zip =
    absurd (subst (λ (cs : List Command). IsRun old cs (o ∷ os) new) none run)
are_short (line ∷ lines) short n commands bad (inl (skipped, later)) old new (o ∷ os) run (reply ∷ replies) zip =
    let rest = are_short lines short.1 (n + 1) commands bad later old new (o ∷ os) run (reply ∷ replies) zip in
    omega (arith, rest)
are_short (line ∷ lines) short n commands bad (inr (inl (first, next, says, is, later))) old new (o ∷ os) run (reply ∷ replies) zip =
    let ran = subst (λ (cs : List Command). IsRun old cs (o ∷ os) new) is run in
    let rest = are_short lines short.1 (n + 1) next bad later ran.0 new os ran.2 replies zip.1 in
    let here = short.0 first says old ran.0 o ran.1 reply zip.0 in
    omega (arith, rest, here, length-append reply (line_feed ∷ []), length-append (ended reply) (flat_map ended replies))
are_short (line ∷ lines) short n commands bad (inr (inr (is_bad, none, is))) old new (o ∷ os) run (reply ∷ replies) zip =
    absurd (subst (λ (cs : List Command). IsRun old cs (o ∷ os) new) none run)

-- the first of such lines are such
short_first : (first later lines : List (List ℕ)) → lines ≡ first ++ later → HaveShortReplies lines → HaveShortReplies first
short_first first later lines is short = by first (subst HaveShortReplies is short)
  where
    by : (xs : List (List ℕ)) → HaveShortReplies (xs ++ later) → HaveShortReplies xs
    by [] h = tt
    by (x ∷ xs) h = (h.0, by xs h.1)

abbrev pub OneSplit : Type 0
OneSplit = (bytes part other : List ℕ) (lines others : List (List ℕ)) → Splits bytes lines part → Splits bytes others other → (lines ≡ others) × (part ≡ other)

-- what a broken output was to get is no longer than these at most
pub due_is_short : OneSplit → (bytes : List ℕ) (lines : List (List ℕ)) → Splits bytes lines [] → map without_return lines ≡ lines → HaveShortReplies lines
    → {input : Input} (out : List ℕ)
    → WritingFailed bytes (Some false) input out → length out ≤ 21 * length lines
due_is_short split bytes lines is same short out h =
    let (all, part, later, splits, are) = first_of_all h in
    let one = split bytes part [] all lines splits is in
    let given : map without_return all ++ last_line part ≡ lines =
    (λ i. map without_return (one.0 i) ++ last_line (one.1 i)) ∙ append-nil (map without_return lines) ∙ same in
    let whole : lines ≡ h.first ++ later = sym given ∙ are in
    let (replies, zip, is_text) = h.replied in
    let bound = are_short h.first (short_first h.first later lines whole short) 1 h.answers.commands h.bad h.answers.script _ _ h.outcomes h.answers.run
    replies zip in
    omega (arith, bound, ap length is_text, ap length whole, length-append h.first later)

-- of a short script that is read to its end, over an output that does not break: all is answered, or no memory was found
abbrev pub these : (OutGets OutBroke ErrGets : List ℕ → Type 0) → Streams
these OutGets OutBroke ErrGets = record { out_gets = OutGets; out_broke = OutBroke; err_gets = ErrGets }

pub ample : (bytes : List ℕ) (input : Input) (OutGets OutBroke ErrGets : List ℕ → Type 0) (status : ℕ)
    → length bytes ≤ 1000 → ((out : List ℕ) → WritingFailed bytes (Some false) input out → OutBroke out → ⊥)
    → Replays bytes (Some false) input (these OutGets OutBroke ErrGets) status
    → ((out err : List ℕ) × AllAnswered bytes (Some false) input out err status × OutGets out × ErrGets err)
    ⊎ ((status ≡ 1) × ErrGets (codes "error: Out of memory\n"))
ample bytes input OutGets OutBroke ErrGets status small whole (inl (out, err, inl all, gets, told)) = inl (out, err, all, gets, told)
ample bytes input OutGets OutBroke ErrGets status small whole (inl (out, err, inr (inl failed), gets, told)) = elim failed.cause [
  | inl (may, read) ↦ absurd may
  | inr (long, read) ↦ absurd (omega (arith, small, long, ap length failed.front, length-append failed.given failed.rest))
]
ample bytes input OutGets OutBroke ErrGets status small whole (inl (out, err, inr (inr failed), gets, told)) =
    inr (failed.status_is, subst ErrGets failed.err_is told)
ample bytes input OutGets OutBroke ErrGets status small whole (inr (out, failed, broke, is, told)) = absurd (whole out failed broke)

-- what a room with place for it was told stands in it
pub room_told : (old : Room) (text : List ℕ) (new : Room) → HasRoomFor old (length text) → TakesOrFails RoomTakes RoomFails old text new
    → room_bytes new ≡ room_bytes old ++ text
room_told old text new fits (inl took) = took.grows
room_told old text new fits (inr failed) = absurd (omega (arith, failed.full, fits))
