-- What a key is hashed to: SipHash-1-3 over the words that each write gives.
use Rattle.std.specs.Prelude.{ℕ, ◌+◌, ◌*◌, ◌/◌, ◌%◌, ◌^◌, List, length, drop}
use Rattle.std.specs.List.{fold}
use Rattle.std.specs.Int.{w64, rotate_left, from_le_bytes}
use Rattle.std.specs.Int.Bits.{bit_or, bit_xor}
use Rattle.std.specs.Simd.{first_chunks}
use Rattle.tera_values.specs.declared.hash_state.HashState.{HashState}
use Rattle.tera_values.specs.declared.hash_state.KeyHasher.{KeyHasher}

-- the sum, at 64 bits
abbrev pub add : ℕ → ℕ → ℕ
add x y = (x + y) % 2 ^ 64

-- a hasher under the two keys of a state
abbrev pub first_hasher : HashState → KeyHasher
first_hasher s = record {
  v0 = bit_xor s.first 0x736f_6d65_7073_6575;
  v1 = bit_xor s.second 0x646f_7261_6e64_6f6d;
  v2 = bit_xor s.first 0x6c79_6765_6e65_7261;
  v3 = bit_xor s.second 0x7465_6462_7974_6573;
}

-- one round
unfoldable pub round : KeyHasher → KeyHasher
round h =
    let a0 = add h.v0 h.v1 in
    let a2 = add h.v2 h.v3 in
    let a1 = bit_xor (rotate_left w64 h.v1 13) a0 in
    let a3 = bit_xor (rotate_left w64 h.v3 16) a2 in
    let b2 = add a2 a1 in
    let b0 = add (rotate_left w64 a0 32) a3 in
    record {
      v0 = b0;
      v1 = bit_xor (rotate_left w64 a1 17) b2;
      v2 = rotate_left w64 b2 32;
      v3 = bit_xor (rotate_left w64 a3 21) b0;
    }

-- a word is mixed in
unfoldable pub take_word : KeyHasher → ℕ → KeyHasher
take_word h m =
    let t = round (record { v0 = h.v0; v1 = h.v1; v2 = h.v2; v3 = bit_xor h.v3 m }) in
    record { v0 = bit_xor t.v0 m; v1 = t.v1; v2 = t.v2; v3 = t.v3 }

-- eight bytes are mixed in, the least first
abbrev pub take_eight : KeyHasher → List ℕ → KeyHasher
take_eight h bs = take_word h (from_le_bytes w64 bs)

-- a byte behind others in one word
abbrev pub join_byte : ℕ → ℕ → ℕ
join_byte m b = bit_or ((m * 2 ^ 8) % 2 ^ 64) b

-- the bytes behind whole words, in one word below their number
abbrev pub last_word : List ℕ → ℕ
last_word bs = fold join_byte (length bs) bs

-- one write: its whole words, and the word of what is behind them
abbrev pub write : KeyHasher → List ℕ → KeyHasher
write h bs =
    let words = length bs / 8 in
    take_word (fold take_eight h (first_chunks 8 words bs)) (last_word (drop (words * 8) bs))

-- three rounds make the hash
unfoldable pub finish : KeyHasher → ℕ
finish h =
    let s : KeyHasher = record { v0 = h.v0; v1 = h.v1; v2 = bit_xor h.v2 255; v3 = h.v3 } in
    let t = round (round (round s)) in
    bit_xor (bit_xor (bit_xor t.v0 t.v1) t.v2) t.v3
