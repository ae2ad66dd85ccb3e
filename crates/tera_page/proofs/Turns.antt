-- Pieces that are put one behind the other, or the first refusal.
use Rattle.std.specs.Prelude.{◌≡◌, ◌≤◌, ◌<◌, ◌+◌, ◌++◌, ℕ, zero, suc, List, [], ◌∷◌, Some, Ok, Err, drop, length, map, slice_get, refl}
use Rattle.std.proofs.Common.{ap, sym, subst, ◌∙◌, get_or, arith}
use Rattle.std.proofs.lemmas.List.{append-nil, append_assoc, drop_all, drop_more, drop-map, length-map}
use Rattle.std.specs.Option.{option_map}
use Rattle.tera.proofs.InTurnLaws.{shown_joined}
use Rattle.tera.specs.InTurn.{ShownInTurn}
use Rattle.tera.specs.State.{State}
use Rattle.tera_page.proofs.Failing.{fails_on}
use Rattle.tera_page.specs.Failures.{Fails}
use Rattle.tera_page.specs.Rendering.{Grows, IsPageOf, Names, Piece, Pieces, ShowsPiece, after, all_after, all_pieces, each, joined, on, pieces}
use Rattle.tera_page.specs.Rendering.{turn_names, turns, turns_from, under}
use Rattle.tera_page.specs.View.{part_of, parts_of}
use Rattle.tera_page.specs.declared.failure.Failure as code
use Rattle.tera_page.specs.declared.tree.Node.{Node}

-- behind some pieces, others
abbrev pub behind : List Piece → Pieces → Pieces
behind ps rest = on rest (λ ys. Ok (ps ++ ys))

regrouped : (r : Pieces) (ps qs : List Piece) → behind ps (behind qs r) ≡ behind (ps ++ qs) r
regrouped (Ok ys) ps qs = ap (λ l. Ok l) (sym (append_assoc ps qs ys))
regrouped (Err failure) ps qs = refl

given : (p : Pieces) (shown : List ℕ) → IsPageOf p shown → (qs : List Piece) × (p ≡ Ok qs) × ShownInTurn ShowsPiece qs shown
given (Ok qs) shown is = (qs, refl, is)
given (Err failure) shown is = absurd is

-- a place behind which something is left, or nothing
pub left_within : {X : Type 0} (i : ℕ) (xs : List X) (x : X) (rest : List X) → drop i xs ≡ x ∷ rest → i < length xs
left_within zero [] x rest is = absurd (cc is)
left_within zero (y ∷ ys) x rest is = omega arith
left_within (suc i) [] x rest is = absurd (cc is)
left_within (suc i) (y ∷ ys) x rest is = omega (arith, left_within i ys x rest is)

pub none_left : {X : Type 0} (i : ℕ) (xs : List X) → drop i xs ≡ [] → length xs ≤ i
none_left i [] is = omega arith
none_left zero (y ∷ ys) is = absurd (cc is)
none_left (suc i) (y ∷ ys) is = omega (arith, none_left i ys is)

-- what is left of a list behind one more
pub tail_left : {X : Type 0} (i : ℕ) (xs : List X) (x : X) (rest : List X) → drop i xs ≡ x ∷ rest → drop (i + 1) xs ≡ rest
tail_left zero xs x rest is = ap (drop 1) is
tail_left (suc i) [] x rest is = absurd (cc is)
tail_left (suc i) (y ∷ ys) x rest is = let more : suc i + 1 ≡ suc (i + 1) = omega arith in ap (λ n. drop n (y ∷ ys)) more ∙ tail_left i ys x rest is

-- the next of a list behind some
pub next_left : {X : Type 0} (xs : List X) (i : ℕ) (x : X) → i < length xs → x ≡ get_or xs i x → drop i xs ≡ x ∷ drop (i + 1) xs
next_left xs i x below is = drop_more xs i x below ∙ ap (λ y. y ∷ drop (i + 1) xs) (sym is)

turns_left : (state : State) (owns : List Names) (j n i k : ℕ) → k ≡ j + i
    → drop i (turns_from state j n owns) ≡ turns_from state k n (drop i owns)
turns_left state owns j n zero k is = let same : j ≡ k = omega (arith, is) in ap (λ m. turns_from state m n owns) same
turns_left state [] j n (suc i) k is = refl
turns_left state (own ∷ owns) j n (suc i) k is = turns_left state owns (suc j) n i k (omega (arith, is))

turns_many : (state : State) (owns : List Names) (i n : ℕ) → length (turns_from state i n owns) ≡ length owns
turns_many state [] i n = refl
turns_many state (own ∷ owns) i n = ap suc (turns_many state owns (suc i) n)

pub turns_count : (state : State) (owns : List Names) → length (turns state owns) ≡ length owns
turns_count state owns = turns_many state owns 0 (length owns)

turn_at : (state : State) (owns : List Names) (own : Names) (j n i k : ℕ) → k ≡ j + i → slice_get owns i ≡ Some own
    → slice_get (turns_from state j n owns) i ≡ Some (under state (own ++ turn_names k n))
turn_at state [] own j n zero k at is = absurd (cc is)
turn_at state [] own j n (suc i) k at is = absurd (cc is)
turn_at state (other ∷ owns) own j n zero k at is =
    let here : j ≡ k = omega (arith, at) in
    ap (option_map (λ it. under state (it ++ turn_names j n))) is ∙ ap (λ m. Some (under state (own ++ turn_names m n))) here
turn_at state (other ∷ owns) own j n (suc i) k at is = turn_at state owns own (suc j) n i k (omega (arith, at)) is

-- the state of a turn
pub turn_of : (state : State) (owns : List Names) (own : Names) (i : ℕ) → slice_get owns i ≡ Some own
    → slice_get (turns state owns) i ≡ Some (under state (own ++ turn_names i (length owns)))
turn_of state owns own i is = turn_at state owns own 0 (length owns) i i (omega arith) is

-- the state of the turn behind some others
pub next_turn : (state : State) (owns : List Names) (own : Names) (i : ℕ) → drop i owns ≡ own ∷ drop (i + 1) owns
    → drop i (turns state owns) ≡ under state (own ++ turn_names i (length owns)) ∷ drop (i + 1) (turns state owns)
next_turn state owns own i is =
    let n = length owns in
    let behind : drop (i + 1) (turns state owns) ≡ turns_from state (suc i) n (drop (i + 1) owns) =
    turns_left state owns 0 n (i + 1) (suc i) (omega arith) in
    turns_left state owns 0 n i i (omega arith) ∙ ap (turns_from state i n) is
    ∙ ap (λ l. under state (own ++ turn_names i n) ∷ l) (sym behind)

-- there are as many turns as parts
pub made_count : {X : Type 0} (make : X → Names) (state : State) (xs : List X) → length (turns state (map make xs)) ≡ length xs
made_count make state xs = turns_count state (map make xs) ∙ length-map xs make

-- the same where the names are those of a list's parts
pub next_made : {X : Type 0} (make : X → Names) (state : State) (xs : List X) (x : X) (i : ℕ) → drop i xs ≡ x ∷ drop (i + 1) xs
    → drop i (turns state (map make xs)) ≡ under state (make x ++ turn_names i (length xs)) ∷ drop (i + 1) (turns state (map make xs))
next_made make state xs x i is =
    subst (λ n. drop i (turns state (map make xs)) ≡ under state (make x ++ turn_names i n) ∷ drop (i + 1) (turns state (map make xs)))
    (length-map xs make)
    (next_turn state (map make xs) (make x) i (drop-map make i xs ∙ ap (map make) is ∙ ap (λ l. make x ∷ l) (sym (drop-map make (i + 1) xs))))

module _ (whole : Pieces) where
  -- what was put is the front of some pieces, and these are left
  abbrev pub Put : Pieces → List ℕ → List ℕ → Type 0
  Put left old new =
      (ps : List Piece) × (shown : List ℕ) × ShownInTurn ShowsPiece ps shown × (new ≡ old ++ shown) × (whole ≡ behind ps left)

  pub put_on : (first left : Pieces) (old new newer more : List ℕ) → IsPageOf first more → newer ≡ new ++ more → Put (joined first left) old new
      → Put left old newer
  put_on first left old new newer more page grows (ps, shown, turn, so_far, all) =
      let (qs, gives, turned) = given first more page in (
        ps ++ qs,
        shown ++ more,
        shown_joined ShowsPiece ps qs shown more turn turned,
        grows ∙ ap (λ l. l ++ more) so_far ∙ append_assoc old shown more,
        all ∙ ap (λ p. behind ps (joined p left)) gives ∙ regrouped left ps qs,
      )

  pub put_wrong : (first left : Pieces) (old new : List ℕ) (failed : code.Failure) → Fails first failed → Put (joined first left) old new → Fails whole failed
  put_wrong first left old new failed is (ps, shown, turn, so_far, all) =
      subst (λ p. Fails p failed) (sym all)
      (fails_on (joined first left) (λ ys. Ok (ps ++ ys)) failed (fails_on first (λ ys. on left (λ zs. Ok (ys ++ zs))) failed is))

  pub put_last : (old new : List ℕ) → Put (Ok []) old new → Grows whole old new
  put_last old new (ps, shown, turn, so_far, all) = (
    shown,
    subst (λ p. IsPageOf p shown) (sym all) (subst (λ l. ShownInTurn ShowsPiece l shown) (sym (append-nil ps)) turn),
    so_far,
  )

module _ {X : Type 0} (f : X → Pieces) (xs : List X) where
  -- the pieces up to a place were put
  abbrev pub Goes : ℕ → List ℕ → List ℕ → Type 0
  Goes i old new = Put (each f xs) (each f (drop i xs)) old new

  pub goes_on : (i : ℕ) (x : X) (old new newer more : List ℕ) → drop i xs ≡ x ∷ drop (i + 1) xs → IsPageOf (f x) more
      → newer ≡ new ++ more → Goes i old new → Goes (i + 1) old newer
  goes_on i x old new newer more next page grows so_far =
      put_on (each f xs) (f x) (each f (drop (i + 1) xs)) old new newer more page grows
      (subst (λ l. Put (each f xs) (each f l) old new) next so_far)

  pub goes_wrong : (i : ℕ) (x : X) (old new : List ℕ) (failed : code.Failure) → drop i xs ≡ x ∷ drop (i + 1) xs → Fails (f x) failed → Goes i old new
      → Fails (each f xs) failed
  goes_wrong i x old new failed next is so_far =
      put_wrong (each f xs) (f x) (each f (drop (i + 1) xs)) old new failed is (subst (λ l. Put (each f xs) (each f l) old new) next so_far)

  pub goes_last : (i : ℕ) (old new : List ℕ) → length xs ≤ i → Goes i old new
      → Grows (each f xs) old new
  goes_last i old new past so_far =
      put_last (each f xs) old new (subst (λ l. Put (each f xs) (each f l) old new) (drop_all i xs past) so_far)

module _ (nodes : List Node) (from : State) where
  -- the parts up to a place were put, and led to this state
  abbrev pub Steps : ℕ → State → List ℕ → List ℕ → Type 0
  Steps i state old new =
      Put (all_pieces (parts_of nodes) from) (all_pieces (parts_of (drop i nodes)) state) old new
      × (all_after (parts_of nodes) from ≡ all_after (parts_of (drop i nodes)) state)

  pub steps_on : (i : ℕ) (n : Node) (state later : State) (old new newer more : List ℕ) → drop i nodes ≡ n ∷ drop (i + 1) nodes
      → IsPageOf (pieces (part_of n) state) more → newer ≡ new ++ more → later ≡ after (part_of n) state → Steps i state old new
      → Steps (i + 1) later old newer
  steps_on i n state later old new newer more next page grows leads (so_far, led) =
      let rest = parts_of (drop (i + 1) nodes) in (
        put_on (all_pieces (parts_of nodes) from) (pieces (part_of n) state) (all_pieces rest later) old new newer more page grows
            (subst (λ s. Put (all_pieces (parts_of nodes) from) (joined (pieces (part_of n) state) (all_pieces rest s)) old new) (sym leads)
            (subst (λ l. Put (all_pieces (parts_of nodes) from) (all_pieces (parts_of l) state) old new) next so_far)),
        led ∙ ap (λ l. all_after (parts_of l) state) next ∙ ap (all_after rest) (sym leads),
      )

  pub steps_wrong : (i : ℕ) (n : Node) (state : State) (old new : List ℕ) (failed : code.Failure) → drop i nodes ≡ n ∷ drop (i + 1) nodes
      → Fails (pieces (part_of n) state) failed → Steps i state old new → Fails (all_pieces (parts_of nodes) from) failed
  steps_wrong i n state old new failed next is (so_far, led) =
      put_wrong (all_pieces (parts_of nodes) from) (pieces (part_of n) state)
      (all_pieces (parts_of (drop (i + 1) nodes)) (after (part_of n) state)) old new failed is
      (subst (λ l. Put (all_pieces (parts_of nodes) from) (all_pieces (parts_of l) state) old new) next so_far)

  pub steps_last : (i : ℕ) (state : State) (old new : List ℕ) → length nodes ≤ i → Steps i state old new
      → Grows (all_pieces (parts_of nodes) from) old new × (state ≡ all_after (parts_of nodes) from)
  steps_last i state old new past (so_far, led) =
      let none = drop_all i nodes past in (
        put_last (all_pieces (parts_of nodes) from) old new
            (subst (λ l. Put (all_pieces (parts_of nodes) from) (all_pieces (parts_of l) state) old new) none so_far),
        sym (led ∙ ap (λ l. all_after (parts_of l) state) none),
      )
