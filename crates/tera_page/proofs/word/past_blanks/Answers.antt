-- Blanks are ASCII.
use Rattle.std.proofs.Common.{ap, ◌≡◌, ◌<◌, ◌∙◌, false, length, slice_index, subst, sym, arith}
use Rattle.tera_page.proofs.Fronts.{cut_behind_blanks, solid_from}
use Rattle.tera_page.proofs.word.past_blanks.Goals as goal
use Rattle.tera_page.specs.Grammar.{begins_blank}
use Rattle.tera_page.specs.Words.{is_blank}

pub split_at-requires : goal.split_at-requires
split_at-requires c =
    let same = c.as_bytes.ensures.value in
    cut_behind_blanks c.args.text.now c.blanks.result c.utf8.text (omega (arith, c.blanks.ensures.within, c.as_bytes.ensures.len))
    (λ i below. ap (λ l. is_blank (slice_index l i)) (sym same) ∙ c.blanks.ensures.each i below)

pub returns-clause-all : goal.returns-clause-all
returns-clause-all c =
    let n = c.blanks.result in
    let solid = subst (λ l. n < length l → is_blank (slice_index l n) ≡ false) c.as_bytes.ensures.value c.blanks.ensures.all in
    ap begins_blank c.split_at.ensures.back ∙ solid_from c.args.text.now n solid
