-- The parts of the text.
use Rattle.std.proofs.Common.{◌∙◌, ◌++◌, [], refl, ap, sym, subst}
use Rattle.tera_page.proofs.Fronts.{behind_marks, marked_there, never, none_out}
use Rattle.tera_page.proofs.token.marked.Goals as goal
use Rattle.tera_page.specs.Grammar.{LeftOut, closing, opening}
use Rattle.tera_page.specs.Tokens.{mark_of}

pub returns-then-last-clause-marked : goal.returns-then-last-clause-marked
returns-then-last-clause-marked c starts =
    let after = c.past_blanks-then-last.result.0.now in
    marked_there (mark_of c.args.mark) c.args.text.now c.past_blanks.result.0.now c.past_blanks.result.1.now c.in_ok-inner.inner.now
    c.in_ok-inner.behind.now c.dash_first.result.1.now c.dash_last-last.result.1.now after c.past_blanks-then-last.result.1.now c.dash_first.result.0
    c.dash_last-last.result.0 c.past_blanks.ensures.whole c.in_ok-inner.ensures.whole c.in_ok-inner.ensures.first c.past_blanks-then-last.ensures.whole starts
    c.past_blanks.ensures.blanks c.dash_first.ensures c.dash_last-last.ensures
    (subst (λ t. LeftOut t after) (sym c.if-last.true) c.past_blanks-then-last.ensures.blanks) (λ yes. c.past_blanks-then-last.ensures.all)

pub returns-else-last-clause-marked : goal.returns-else-last-clause-marked
returns-else-last-clause-marked c starts =
    marked_there (mark_of c.args.mark) c.args.text.now c.past_blanks.result.0.now c.past_blanks.result.1.now c.in_ok-inner.inner.now
    c.in_ok-inner.behind.now c.dash_first.result.1.now c.dash_last-last.result.1.now [] c.in_ok-inner.behind.now c.dash_first.result.0
    c.dash_last-last.result.0 c.past_blanks.ensures.whole c.in_ok-inner.ensures.whole c.in_ok-inner.ensures.first refl starts
    c.past_blanks.ensures.blanks c.dash_first.ensures c.dash_last-last.ensures (none_out c.dash_last-last.result.0)
    (λ yes. never c.dash_last-last.result.0 c.if-last.false yes)

pub returns-then-last-clause-shorter : goal.returns-then-last-clause-shorter
returns-then-last-clause-shorter c =
    behind_marks (mark_of c.args.mark) c.args.text.now c.past_blanks.result.0.now c.in_ok-inner.inner.now c.past_blanks-then-last.result.0.now
    c.past_blanks-then-last.result.1.now
    (c.past_blanks.ensures.whole ∙ ap (λ l. c.past_blanks.result.0.now ++ l) (c.in_ok-inner.ensures.whole
    ∙ ap (λ l. opening (mark_of c.args.mark) ++ (c.in_ok-inner.inner.now ++ (closing (mark_of c.args.mark) ++ l))) c.past_blanks-then-last.ensures.whole))

pub returns-else-last-clause-shorter : goal.returns-else-last-clause-shorter
returns-else-last-clause-shorter c =
    behind_marks (mark_of c.args.mark) c.args.text.now c.past_blanks.result.0.now c.in_ok-inner.inner.now [] c.in_ok-inner.behind.now
    (c.past_blanks.ensures.whole ∙ ap (λ l. c.past_blanks.result.0.now ++ l) c.in_ok-inner.ensures.whole)
