-- Blanks are ASCII.
use Rattle.std.proofs.Common.{ap, ◌∙◌, slice_index, sym, arith}
use Rattle.tera_page.proofs.Fronts.{cut_behind_blanks}
use Rattle.tera_page.proofs.word.next_word.Goals as goal
use Rattle.tera_page.specs.Words.{is_blank}

pub split_at-requires : goal.split_at-requires
split_at-requires c =
    let same = c.as_bytes.ensures.value in
    cut_behind_blanks c.args.text.now c.blanks.result c.utf8.text (omega (arith, c.blanks.ensures.within, c.as_bytes.ensures.len))
    (λ i below. ap (λ l. is_blank (slice_index l i)) (sym same) ∙ c.blanks.ensures.each i below)
