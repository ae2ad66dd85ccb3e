-- Parts behind parts.
use Rattle.std.specs.Prelude.{◌≡◌, Bool, true, false, cond, [], Ok, Err, refl}
use Rattle.std.proofs.Common.{◌∙◌, ap, sym}
use Rattle.std.proofs.lemmas.List.{append_assoc}
use Rattle.tera.specs.State.{State}
use Rattle.tera_page.specs.Rendering.{Pieces, after, all_after, all_pieces, joined, pieces}
use Rattle.tera_page.specs.Template.{Parts, followed, no_parts, part}

pub alone : (shown : Pieces) → joined (Ok []) shown ≡ shown
alone (Ok ps) = refl
alone (Err failure) = refl

joined_in_turn : (p q r : Pieces) → joined (joined p q) r ≡ joined p (joined q r)
joined_in_turn (Err failure) q r = refl
joined_in_turn (Ok xs) (Err failure) r = refl
joined_in_turn (Ok xs) (Ok ys) (Err failure) = refl
joined_in_turn (Ok xs) (Ok ys) (Ok zs) = ap (λ l. Ok l) (append_assoc xs ys zs)

in_turn : (ps rest : Parts) (state : State) → all_pieces (followed ps rest) state ≡ joined (all_pieces ps state) (all_pieces rest (all_after ps state))
in_turn no_parts rest state = sym (alone (all_pieces rest state))
in_turn (part p ps) rest state =
    ap (joined (pieces p state)) (in_turn ps rest (after p state))
    ∙ sym (joined_in_turn (pieces p state) (all_pieces ps (after p state)) (all_pieces rest (all_after ps (after p state))))

-- what is taken, and behind it others
pub taken : (b : Bool) (chosen otherwise rest : Parts) (state : State)
    → joined (cond b (all_pieces chosen state) (all_pieces otherwise state))
    (all_pieces rest (cond b (all_after chosen state) (all_after otherwise state)))
    ≡ all_pieces (followed (cond b chosen otherwise) rest) state
taken true chosen otherwise rest state = sym (in_turn chosen rest state)
taken false chosen otherwise rest state = sym (in_turn otherwise rest state)
