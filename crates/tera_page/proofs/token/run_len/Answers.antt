-- What begins with a `-` leaves out the blanks before it.
use Rattle.std.proofs.Common.{◌∙◌, ap, sym}
use Rattle.std.proofs.lemmas.List.{take_rest}
use Rattle.tera_page.proofs.Fronts.{ascii_there, begins_left_out, kept}
use Rattle.tera_page.proofs.token.run_len.Goals as goal
use Rattle.tera_page.specs.Grammar.{opens, opens_dashed}

pub returns-then-opens_dashed-clause-ascii : goal.returns-then-opens_dashed-clause-ascii
returns-then-opens_dashed-clause-ascii c below =
    let at = c.loop-at.at in
    ascii_there c.args.bytes.now c.loop-at.solid at c.loop-at.invariant.1 c.loop-at.invariant.2
    (ap opens (sym (take_rest c.args.bytes.now at)) ∙ sym c.opens.ensures ∙ c.if-opens.true)

pub returns-then-opens_dashed-clause-begins : goal.returns-then-opens_dashed-clause-begins
returns-then-opens_dashed-clause-begins c some none =
    let at = c.loop-at.at in
    begins_left_out c.args.bytes.now c.loop-at.solid at none c.loop-at.invariant.2
    (ap opens_dashed (sym (take_rest c.args.bytes.now at)) ∙ sym c.opens_dashed.ensures ∙ c.if-opens_dashed.true)

pub loop-at-preserved : goal.loop-at-preserved
loop-at-preserved c =
    let at = c.loop-at.at in
    kept c.args.bytes.now c.loop-at.solid c.at_blank-solid.result at c.loop-at.invariant
    (ap opens (sym (take_rest c.args.bytes.now at)) ∙ sym c.opens.ensures ∙ c.if-opens.false) c.at_blank-solid.ensures
