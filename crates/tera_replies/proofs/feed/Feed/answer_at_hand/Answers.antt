-- The line at hand lies whole in what is left, or is put together.
use Rattle.std.proofs.Common.{◌≡◌, [], sym, arith}
use Rattle.std.proofs.{lemmas.List.nil_from_length, lemmas.Bool.eqb-true}
use Rattle.tera_replies.proofs.feed.Feed.answer_at_hand.Goals as goal

pub returns-then-is_empty-clause-err : goal.returns-then-is_empty-clause-err
returns-then-is_empty-clause-err g c =
    let part = c.args.self.now.part in
    let nothing : part.items ≡ [] = nil_from_length part.items (omega (arith, part.ok.0, eqb-true _ _ (sym c.if-is_empty.ensures))) in
    rw nothing (rw c.trimmed.ensures at c.answer_line.ensures.err)

pub returns-in_ok-extend_from_slice-clause-err : goal.returns-in_ok-extend_from_slice-clause-err
returns-in_ok-extend_from_slice-clause-err g c =
    rw (c.trimmed-line.ensures, c.as_slice.ensures.value, c.in_ok-extend_from_slice.ensures.items) at c.answer_line-else-is_empty.ensures.err
