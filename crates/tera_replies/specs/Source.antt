-- When a source may end, when it may fail, and what reads of it gave.
use Rattle.std.specs.Prelude.{◌≡◌, ℕ, ◌<◌, ◌⊎◌, Bool, true, false, List, [], ◌∷◌, ◌++◌}
use Rattle.std.specs.Prelude.{take, drop, length, Option, None, Some, Result, Ok, Err}
use Rattle.std.specs.Borrow.{Bor}
use Rattle.std.specs.Io.KnownBytes.{IsAtEnd}
use Rattle.std.specs.List.{FoldsTo, flat_map}
use Rattle.tera_replies.specs.declared.source.InputPieces.{InputPieces}
use Rattle.tera_replies.specs.declared.source.ReadError.{ReadError}

-- the bytes of some pieces, joined
abbrev pub joined : List (Bor (List ℕ)) → List ℕ
joined pieces = flat_map (λ piece. piece.now) pieces

-- what is left of some pieces where so much of the first was given
abbrev pub left_of : List (Bor (List ℕ)) → ℕ → List ℕ
left_of [] given = []
left_of (first ∷ later) given = drop given first.now ++ joined later

-- the bytes that pieces give from here on, and whether they fail behind these
abbrev pub bytes_left : InputPieces → List ℕ
bytes_left p = left_of (drop p.at p.pieces.now) p.given

abbrev pub fails_at_end : InputPieces → Bool
fails_at_end p = p.fails

-- an end is told by no source that fails
abbrev pub EndIsTold : Option Bool → Type 0
EndIsTold (Some true) = ⊥
EndIsTold (Some false) = Unit {0}
EndIsTold None = Unit {0}

-- a source that fails does so once it has given its bytes, and one that ends does not
abbrev pub MayErr : Option Bool → Option (List ℕ) → Type 0
MayErr (Some true) left = IsAtEnd left
MayErr (Some false) left = ⊥
MayErr None left = Unit {0}

-- a read that gave some bytes: the piece as it left it, and how many
pub record Giving : Type 0 where
  pub piece : List ℕ
  pub count : ℕ
  pub some : 0 < count

-- the bytes that it gave
abbrev pub given_by : Giving → List ℕ
given_by a = take a.count a.piece

-- the source went from old to new by reads that gave just these bytes, each of them some
pub record Reads {S : Type 0} (gave : S → List ℕ → Result ℕ ReadError → S → Type 0) (old : S)
    (bytes : List ℕ) (new : S) : Type 0 where
  pub attempts : List Giving
  pub calls : FoldsTo (λ s a t. gave s a.piece (Ok a.count) t) old attempts new
  pub whole : flat_map given_by attempts ≡ bytes

-- such reads of the source gave just these bytes, and one more gave the last ones; or no read was
-- made
abbrev pub ReadsTo : {S : Type 0} → (S → List ℕ → Result ℕ ReadError → S → Type 0)
    → S → List ℕ → List ℕ → S → Type 0
ReadsTo {S} gave old before last new =
    ((before ≡ []) × (last ≡ []) × (new ≡ old))
    ⊎ ((mid : S) × (one : Giving) × Reads gave old before mid
    × gave mid one.piece (Ok one.count) new × (last ≡ given_by one))

-- such reads of the source gave just these bytes, and then one that had room told the end
abbrev pub ReadEnds : {S : Type 0} → (S → List ℕ → Result ℕ ReadError → S → Type 0)
    → S → List ℕ → S → Type 0
ReadEnds {S} gave old bytes new =
    (mid : S) × (piece : List ℕ) × (0 < length piece) × Reads gave old bytes mid
    × gave mid piece (Ok 0) new

-- such reads of the source gave just these bytes, and then one answered an error
abbrev pub ReadFails : {S : Type 0} → (S → List ℕ → Result ℕ ReadError → S → Type 0)
    → S → List ℕ → S → Type 0
ReadFails {S} gave old bytes new =
    (mid : S) × (piece : List ℕ) × (fault : ReadError) × Reads gave old bytes mid
    × gave mid piece (Err fault) new
