use Rattle.std.proofs.Common.{◌≡◌, ◌<◌, ℕ, true, false, length, get_or, subst, arith}
use Rattle.tera_report.specs.inner.Quoted.{is_marked}
use Rattle.tera_report.proofs.QuoteLemmas.{boundary_after_plain, past_plain}
use Rattle.tera_report.proofs.quote.skip_plain.Goals as goal

pub range_from-requires : goal.range_from-requires
range_from-requires c = λ some.
    let at = c.plain_len-at.result in
    let plain = subst (λ t. (k : ℕ) → k < at → is_marked (get_or t k 0) ≡ false) c.as_bytes.ensures.value c.plain_len-at.ensures.plain in
    boundary_after_plain c.args.text.now at c.utf8.text (omega arith) plain

pub returns : goal.returns
returns c =
    let at = c.plain_len-at.result in
    let same = c.as_bytes.ensures.value in
    let plain = subst (λ t. (k : ℕ) → k < at → is_marked (get_or t k 0) ≡ false) same c.plain_len-at.ensures.plain in
    let stops = subst (λ t. at < length t → is_marked (get_or t at 0) ≡ true) same c.plain_len-at.ensures.stops in
    past_plain c.args.text.now c.range_from.result.now at (omega arith) plain stops c.range_from.ensures.value
