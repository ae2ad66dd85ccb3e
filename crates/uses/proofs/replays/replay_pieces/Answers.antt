-- A stretch behind a stretch is one, and what was put is the text of both.
use Rattle.std.proofs.Common.{◌≡◌, ◌<◌, ◌+◌, ◌||◌, ◌++◌, ℕ, Bool, List, [], ◌∷◌, Result, Ok, Err, IfOk, take, length, sym, ap, subst, ◌∙◌, append-nil, arith}
use Rattle.std.proofs.Common.{if◌then◌else◌, get_or}
use Rattle.std.proofs.lemmas.List.{take_all, take_more}
use Rattle.std.proofs.lemmas.List.Concat.{flat_map-append}
use Rattle.std.specs.List.{flat_map}
use Rattle.tera.specs.State.{State}
use Rattle.tera.specs.Sink.{Sends}
use Rattle.tera.proofs.SentLaws.{sends_joined, sends_nothing}
use Rattle.tera_replies.specs.Replay.{IsAnswered}
use Rattle.tera_replies.specs.Script.{last_line}
use Rattle.tera_replies.specs.Stretch.{Goes, Place, Runs, start}
use Rattle.uses.proofs.replays.replay_pieces.Goals as goal

next_piece : {X : Type 0} (ps : List X) (f : X → List ℕ) (i : ℕ) (p : X) → i < length ps → p ≡ get_or ps i p
    → flat_map f (take (i + 1) ps) ≡ flat_map f (take i ps) ++ f p
next_piece ps f i p below is =
    ap (flat_map f) (take_more ps i p below ∙ ap (λ x. take i ps ++ x ∷ []) (sym is))
    ∙ flat_map-append f (take i ps) (p ∷ [])
    ∙ ap (λ bytes. flat_map f (take i ps) ++ bytes) (append-nil (f p))

module _ {S E : Type 0} (takes : S → List ℕ → S → Type 0) (flushes : S → S → Type 0) where
  finished : (result : Result Bool E) (bytes text : List ℕ) (place : Place) (state : State) (old mid new : S)
      → ((more : List ℕ) (last : Bool) → Runs place.number place.state (last_line place.part) more last state
      → IsAnswered bytes (text ++ more) [] (if place.wanted || last then 1 else 0))
      → Sends takes flushes old text mid
      → IfOk result (λ wanted. (more : List ℕ) × (last : Bool)
      × Runs place.number place.state (last_line place.part) more last state
      × (wanted ≡ (place.wanted || last)) × Sends takes flushes mid more new)
      → IfOk result (λ wanted. (whole : List ℕ) × IsAnswered bytes whole [] (if wanted then 1 else 0)
      × Sends takes flushes old whole new)
  finished (Ok wanted) bytes text place state old mid new answered sent (more, last, runs, is, put) =
      (text ++ more, rw is (answered more last runs), sends_joined takes flushes _ _ _ _ _ sent put)
  finished (Err e) bytes text place state old mid new answered sent ok = tt

pub loop-piece-init : goal.loop-piece-init
loop-piece-init g c =
    let place = subst (λ (p : Place). Goes start [] [] p) (sym c.new-replayer.ensures) c.stretches_are_joined.ensures.none in
    ([], place, sends_nothing g.W.Sink.takes g.W.Sink.flushes c.args.out.now)

pub loop-piece-preserved : goal.loop-piece-preserved
loop-piece-preserved g c =
    let sink = g.W.Sink in
    let (text, goes, sent) = c.loop-piece.invariant in
    let (more, taken, put) = c.in_ok-take.ensures.ok in
    let on = rw c.as_slice.ensures.value at taken in
    let piece = c.piece-item.result in
    let whole = next_piece c.args.pieces.now (λ one. one.items) c.loop-piece.piece-index piece c.loop-piece-test.true c.piece-item.is in
    let joined = c.stretches_are_joined.ensures.joined start c.loop-piece.replayer c.take.new.self _ piece.items text more goes on in (
      text ++ more,
      subst (λ (bytes : List ℕ). Goes start bytes (text ++ more) c.take.new.self) (sym whole) joined,
      sends_joined sink.takes sink.flushes _ _ _ _ _ sent put,
    )

pub returns : goal.returns
returns g c =
    let sink = g.W.Sink in
    let (text, goes, sent) = c.loop-piece.invariant in
    let all = take_all c.loop-piece.piece-index c.args.pieces.now (omega (arith, c.loop-piece-test.false)) in
    let bytes = flat_map (λ piece. piece.items) c.args.pieces.now in
    let place = c.loop-piece.replayer in
    let state = c.finish.new.self.state in
    let from_start = rw all at goes in
    finished sink.takes sink.flushes c.finish.result _ text place state c.args.out.now c.loop-piece.out c.finish.new.out
    (λ more last runs. c.what_a_replayer_took_is_answered.ensures.whole _ text more place last state from_start runs)
    sent c.finish.ensures.ok
