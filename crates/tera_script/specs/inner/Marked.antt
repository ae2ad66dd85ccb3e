-- Bytes of a text that do not stand for themselves in its literal.
use Rattle.std.specs.Prelude.{◌≡◌, ◌<◌, ◌≤◌, ◌||◌, ◌==◌, ℕ, Bool, true, false, cond, nat_lt, List}
use Rattle.std.specs.Prelude.{length, slice_index}

-- the greatest byte that may stand for itself
abbrev pub greatest : Bool → ℕ
greatest ascii = cond ascii 126 255

-- the byte is a control byte (below 32, or 127), a quote, a backslash, or above the most
abbrev pub is_marked : ℕ → ℕ → Bool
is_marked most byte =
    nat_lt byte 32 || (byte == 34 || (byte == 92 || (byte == 127 || nat_lt most byte)))

-- no byte before the end is marked
abbrev pub IsPlainUpTo : ℕ → List ℕ → ℕ → Type 0
IsPlainUpTo most bytes end = (k : ℕ) → k < end → is_marked most (slice_index bytes k) ≡ false

-- so many bytes stand before the first marked one, or they are all, and none is marked
pub record IsPlainLen (most : ℕ) (bytes : List ℕ) (n : ℕ) : Type 0 where
  pub within : n ≤ length bytes
  pub plain : IsPlainUpTo most bytes n
  pub stops : n < length bytes → is_marked most (slice_index bytes n) ≡ true
