use Rattle.std.proofs.Common.{◌≡◌, ◌<◌, ◌∙◌, true, length, slice_index, subst, ap}
use Rattle.std.proofs.lemmas.Str.{IsCharBoundary-after_ascii}
use Rattle.tera_report.specs.Escaping.{is_special}
use Rattle.tera_report.proofs.EscapeLaws.{escaped_run, special_is_ascii}
use Rattle.tera_report.proofs.pieces.first_piece.Goals as goal

-- The first byte is one of the special ones, which are ASCII.
pub range_from-requires : goal.range_from-requires
range_from-requires c =
    let (is, same, within, (some, each), from) = c.in_ok-first.ensures.item in
    let text = c.args.text.now in
    let value = c.as_bytes-bytes.ensures.value in
    let room : 0 < length text = subst (λ t. 0 < length t) value some in
    let first : is_special (slice_index text 0) ≡ true = subst (λ b. is_special b ≡ true) (each 0 ∙ ap (λ t. slice_index t 0) value) c.in-Some.ensures.special
    in
    λ _. IsCharBoundary-after_ascii text 0 c.utf8.text room (special_is_ascii _ first)

pub returns-in-None-clause-cut : goal.returns-in-None-clause-cut
returns-in-None-clause-cut c =
    escaped_run _ _ _ _ c.ordinary_len.result c.as_bytes-bytes.ensures.value c.ordinary_len.ensures.within c.ordinary_len.ensures.plain c.split_at.ensures.front
    c.split_at.ensures.back
