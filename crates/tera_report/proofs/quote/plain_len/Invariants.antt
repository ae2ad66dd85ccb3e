use Rattle.std.proofs.Common.{◌≡◌, ◌<◌, ℕ, false, slice_index}
use Rattle.tera_report.specs.inner.Quoted.{is_marked}
use Rattle.tera_report.proofs.quote.plain_len.Given as goal

abbrev pub invariant-loop-at : goal.invariant-loop-at
invariant-loop-at l = (k : ℕ) → k < l.at → is_marked (slice_index l.bytes k) ≡ false
