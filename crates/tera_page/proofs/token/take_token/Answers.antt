-- The run, or what stands between marks.
use Rattle.std.proofs.Common.{◌≡◌, ◌<◌, true, length, sym, subst, arith}
use Rattle.tera_page.proofs.token.take_token.Goals as goal
use Rattle.tera_page.specs.Tokens.{begins}

pub returns-in-Some-clause-spelled : goal.returns-in-Some-clause-spelled
returns-in-Some-clause-spelled c =
    let starts : 0 < length c.args.text.now → begins c.args.text.now ≡ true = λ some. subst (λ l. begins l ≡ true) c.as_bytes.ensures.value
    (c.run_len-run.ensures.begins (subst (λ l. 0 < length l) (sym c.as_bytes.ensures.value) some) (omega (arith, c.if-run-gt0.false))) in
    (c.in-Some.said.now, c.show_in-how.ensures, c.in-Some.ensures.marked starts)
