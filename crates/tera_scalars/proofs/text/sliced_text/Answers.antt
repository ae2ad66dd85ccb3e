use Rattle.std.proofs.Common.{◌≡◌, ◌≢◌, [], List, ℕ, ℤ, IfOk, IsOk, pos, ◌-◌, refl, ap, subst, take, ◌∙◌}
use Rattle.std.proofs.{lemmas.Int.to_z-of_z, lemmas.Result.IfOk-weaker}
use Rattle.std.specs.{Int.w128, Int.cast_unsigned, Int.cast_signed, Str.chars, Str.encode_utf8_all, String.string_bytes}
use Rattle.tera_meaning.specs.{SliceRule.IsSliceOf, Slice.walked}
use Rattle.tera_meaning.proofs.SliceLaws.{slices_same}
use Rattle.tera_scalars.proofs.{PositionLaws.walk_slices, TextLemmas.turned_directed}
use Rattle.tera_scalars.proofs.text.sliced_text.Goals as goal

-- what the walk takes is the slice, by a step other than 0
pub returns : goal.returns
returns c =
    let cs = chars c.args.text.now in
    let stride = c.new-stride.result in
    let at = c.new-stride.ensures in
    let reckoned = c.length_to_reckon_with in
    let step = cast_signed w128 (cast_unsigned w128 c.args.step) in
    let same = ap (λ (ds : List ℕ). walked (stride.by - 1) stride.from (take stride.until ds)) (turned_directed _ step cs refl) in
    let slices = λ (nonzero : step ≢ pos 0). walk_slices cs c.args.start c.args.end step reckoned.result stride.from stride.until stride.by nonzero
    reckoned.type_inv reckoned.ensures.enough at.from_within at.until_within reckoned.ensures.exact at.from at.until at.by in
    let is_step = to_z-of_z w128 c.args.step c.ranges.step in record {
      ok =
          subst
          (λ (s : ℤ). IfOk c.sliced.result (λ t. s ≢ pos 0 → (ds : List ℕ) × IsSliceOf cs c.args.start c.args.end s ds × (string_bytes t ≡ encode_utf8_all ds)))
          is_step
          (IfOk-weaker c.sliced.result _ _ (λ t is nonzero. (_, slices nonzero, is ∙ ap encode_utf8_all same)) c.sliced.ensures.ok);
      succeeds =
          subst (λ (s : ℤ). s ≢ pos 0 → IsSliceOf cs c.args.start c.args.end s [] → IsOk c.sliced.result) is_step
          (λ nonzero none. c.sliced.ensures.succeeds (same ∙ slices_same cs _ [] _ _ step (slices nonzero) none));
    }
