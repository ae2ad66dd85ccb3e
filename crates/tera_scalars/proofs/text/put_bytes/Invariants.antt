-- The first of the bytes were put, and there is room for the rest.
use Rattle.std.proofs.Common.{◌≡◌, ◌≤◌, ◌+◌, ◌-◌, ◌++◌, take}
use Rattle.tera_scalars.proofs.text.put_bytes.Given as goal

abbrev pub invariant-loop-byte : goal.invariant-loop-byte
invariant-loop-byte l =
    (l.made.items ≡ l.fn.made.items ++ take l.byte-index l.bytes)
    × (l.made.len + (l.byte-index-end - l.byte-index) ≤ l.made.cap)
