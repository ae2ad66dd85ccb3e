-- The text of bytes is that of its chunks in turn.
use Rattle.std.proofs.Common.{◌≡◌, ℕ, ◌<◌, List, [], ◌∷◌, ◌++◌, length, drop, IsUtf8, rules, refl, sym, ap, ◌∙◌, arith, append-nil, drop_at}
use Rattle.std.proofs.lemmas.Str.{utf8_lossy_chunk, utf8_lossy-IsUtf8, utf8_lossy_empty, utf8_valid_len-IsValidUpTo}
use Rattle.std.specs.{Str.IsValidUpTo, Str.Lossy.utf8_lossy, Str.Lossy.utf8_valid_len}
use Rattle.bstr.specs.Utf8.{decoded}
use Rattle.bstr.proofs.{lemmas.LossyLemmas.utf8_invalid_len-decoded, lemmas.UnicodeLemmas.none_after_valid}
use Rattle.tera_report.proofs.PutLaws.{none_so_far, more_so_far, all_so_far, broke_so_far}
use Rattle.tera_scalars.specs.inner.Lossy.{stand_in}
use Rattle.tera_scalars.proofs.lossy.put_lossy.Goals as goal

chunk_text : (bs valid invalid rest : List ℕ) → bs ≡ valid ++ (invalid ++ rest) → IsUtf8 valid
    → (length invalid ≡ 0 → length rest ≡ 0)
    → (0 < length invalid → IsValidUpTo bs (length valid))
    → (0 < length invalid → length invalid ≡ (decoded (invalid ++ rest)).size)
    → valid ++ (stand_in invalid ++ utf8_lossy rest) ≡ utf8_lossy bs
chunk_text bs valid [] [] parts text end up_to size =
    let whole : bs ≡ valid = parts ∙ append-nil valid in
    ap (λ l. valid ++ l) (utf8_lossy_empty [] refl) ∙ append-nil valid ∙ sym (ap utf8_lossy whole ∙ utf8_lossy-IsUtf8 valid text)
chunk_text bs valid [] (b ∷ rest) parts text end up_to size = let none = end refl in absurd (omega arith)
chunk_text bs valid (b ∷ invalid) rest parts text end up_to size =
    let n = length valid in
    let piece = b ∷ invalid in
    let cut : IsValidUpTo bs n = up_to (omega arith) in
    let front : n ≡ utf8_valid_len bs = sym (utf8_valid_len-IsValidUpTo bs n cut) in
    let left : drop n bs ≡ piece ++ rest = rw parts (drop_at valid (piece ++ rest) n refl) in
    let gone = size (omega arith) ∙ sym (utf8_invalid_len-decoded (piece ++ rest) (rw left at (none_after_valid bs n cut))) in
    sym (utf8_lossy_chunk bs valid piece rest parts front (rw (← front, left) gone) (omega arith))

pub chunks-init : goal.chunks-init
chunks-init g c = rw c.utf8_chunks-chunks.ensures (none_so_far g.S.Sink.takes _ _ (g.met.S.Sink.nothing _))

pub returns-in_err-put : goal.returns-in_err-put
returns-in_err-put g c =
    let h = c.in-Some.ensures.steps in
    let left = rw (← c.valid.ensures) at (chunk_text _ _ _ _ h.0 h.1 h.3 h.4 h.5) in
    let bad = broke_so_far g.S.Sink.takes g.S.Sink.fails g.met.S.Sink.failed_early g.met.S.Sink.failed_later _ _ c.chunks.invariant left c.in_err-put.ensures in
    search rules

pub returns-in_err-put-2 : goal.returns-in_err-put-2
returns-in_err-put-2 g c =
    let h = c.in-Some.ensures.steps in
    let named = c.stand_in.ensures ∙ ap stand_in c.invalid.ensures in
    let left = rw (← c.valid.ensures, ← named) at (chunk_text _ _ _ _ h.0 h.1 h.3 h.4 h.5) in
    let first = more_so_far g.S.Sink.takes g.met.S.Sink.joined _ _ c.chunks.invariant left c.in_ok-put.ensures in
    let bad = broke_so_far g.S.Sink.takes g.S.Sink.fails g.met.S.Sink.failed_early g.met.S.Sink.failed_later _ _ first refl c.in_err-put-2.ensures in
    search rules

pub chunks-preserved : goal.chunks-preserved
chunks-preserved g c =
    let h = c.in-Some.ensures.steps in
    let named = c.stand_in.ensures ∙ ap stand_in c.invalid.ensures in
    let left = rw (← c.valid.ensures, ← named) at (chunk_text _ _ _ _ h.0 h.1 h.3 h.4 h.5) in
    let first = more_so_far g.S.Sink.takes g.met.S.Sink.joined _ _ c.chunks.invariant left c.in_ok-put.ensures in
    more_so_far g.S.Sink.takes g.met.S.Sink.joined _ _ first refl c.in_ok-put-2.ensures

pub returns : goal.returns
returns g c = all_so_far g.S.Sink.takes c.chunks.invariant (utf8_lossy_empty _ c.in_default.ensures.steps.0)
