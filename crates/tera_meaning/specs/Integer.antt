-- Whole numbers, and the four kinds in which a value holds one.
use Rattle.std.specs.Prelude.{◌^◌, ◌<◌, nat_lt, Bool, ℤ, pos, negsuc}

-- The kinds of integers
pub data IntegerKind : Type 0 where
  u64 : IntegerKind
  i64 : IntegerKind
  u128 : IntegerKind
  i128 : IntegerKind

-- A number, and the kind in which it is held
pub record Integer : Type 0 where
  pub kind : IntegerKind
  pub value : ℤ

-- from -2^127 to 2^128 - 1: what some kind holds
abbrev pub IsWide : ℤ → Type 0
IsWide (pos n) = n < 2 ^ 128
IsWide (negsuc n) = n < 2 ^ 127

-- whether a number is from -2^127 to 2^127 - 1: one that arithmetic computes with
abbrev pub is_small : ℤ → Bool
is_small (pos n) = nat_lt n (2 ^ 127)
is_small (negsuc n) = nat_lt n (2 ^ 127)

-- the numbers of a kind. `negsuc n` is -(n + 1)
abbrev pub IsOfKind : IntegerKind → ℤ → Type 0
IsOfKind u64 (pos n) = n < 2 ^ 64
IsOfKind u64 (negsuc n) = ⊥
IsOfKind i64 (pos n) = n < 2 ^ 63
IsOfKind i64 (negsuc n) = n < 2 ^ 63
IsOfKind u128 (pos n) = n < 2 ^ 128
IsOfKind u128 (negsuc n) = ⊥
IsOfKind i128 (pos n) = n < 2 ^ 127
IsOfKind i128 (negsuc n) = n < 2 ^ 127
