-- What is given is the front of what was left.
use Rattle.std.proofs.Common.{◌≡◌, ℕ, ◌+◌, ◌-◌, ◌<◌, List, [], ◌++◌, length, length-append, length-drop, take, drop, get_or, sym, ◌∙◌, ap, arith, append_assoc}
use Rattle.std.proofs.Common.{take-append-drop}
use Rattle.std.proofs.lemmas.List.{take_rest, drop_more, take_at, drop-drop}
use Rattle.std.specs.Borrow.{Bor}
use Rattle.tera_replies.specs.Source.{joined, left_of}
use Rattle.tera_replies.proofs.source.InputPiecesSource.read_piece.Goals as goal

left_at : (pieces : List (Bor (List ℕ))) (at given : ℕ) (d : Bor (List ℕ)) → at < length pieces
    → left_of (drop at pieces) given ≡ drop given ((get_or pieces at d).now) ++ joined (drop (at + 1) pieces)
left_at pieces at given d within = ap (λ ps. left_of ps given) (drop_more pieces at d within)

-- some of what is left of the piece at hand is given
given_more : (pieces : List (Bor (List ℕ))) (at given count next : ℕ) (d : Bor (List ℕ)) (copied room : List ℕ) → at < length pieces → next ≡ given + count
    → copied ≡ take count (drop given (get_or pieces at d).now) → length copied ≡ count
    → left_of (drop at pieces) given ≡ take count (copied ++ room) ++ left_of (drop at pieces) next
given_more pieces at given count next d copied room within to same long =
    let first = (get_or pieces at d).now in
    rw to (cc (
      left_at pieces at given d within,
      left_at pieces at (given + count) d within,
      take-append-drop count (drop given first),
      drop-drop count given first,
      append_assoc (take count (drop given first)) (drop (given + count) first) (joined (drop (at + 1) pieces)),
      take_at copied room count long,
    ))

pub returns-then-self-first-clause-bytes : goal.returns-then-self-first-clause-bytes
returns-then-self-first-clause-bytes c =
    let self = c.loop-self.self in
    let first = (get_or self.pieces.now self.at (record { ref_ptr = (0, 0); now = [] })).now in
    let rest = take (length first - self.given) (drop self.given first) in
    let count = c.min-count.result in
    let cut = c.split_at.ensures in
    let room = drop count c.loop-self.piece in
    let same : c.copy_from_slice.new.self ≡ c.split_at.result.0.now = c.copy_from_slice.ensures.after in
    let long : length rest ≡ length first - self.given = omega (arith, ap length (take_rest first self.given), length-drop self.given first) in
    let next : length first - length c.split_at.result.1.now ≡ self.given + count =
    omega (arith, long, ap length cut.back, length-drop count rest, c.min-count.ensures, c.if-self-first.true) in
    let sizes = length-append c.copy_from_slice.new.self room in (
      sym c.loop-self.invariant.left ∙ given_more self.pieces.now self.at self.given count _ _ c.copy_from_slice.new.self room c.loop-self-test.true next
          (same ∙ cut.front ∙ ap (take count) (take_rest first self.given)) (ap length same ∙ cut.front_len),
      (λ none some. absurd (omega (arith, none, some, long, c.min-count.ensures, sizes, ap length same, cut.front_len, length-drop count c.loop-self.piece))),
    )

pub returns-then-self-first-clause-told : goal.returns-then-self-first-clause-told
returns-then-self-first-clause-told c = returns-then-self-first-clause-bytes c
