use Rattle.std.proofs.Common.{◌∷◌, ◌∙◌, ◌+◌, ap, sym, subst, length}
use Rattle.std.specs.Str.{IsUtf8}
use Rattle.tera_script.specs.Text.{BeginsWithText}
use Rattle.tera_script.proofs.Fronts.{head}
use Rattle.tera_script.proofs.ShortTexts.{none_near, run_cut, run_is, short_found}
use Rattle.tera_script.proofs.Texts.{run_closed}
use Rattle.tera_script.proofs.text.short_text.Goals as goal

pub returns-in_err-length-clause-short : goal.returns-in_err-length-clause-short
returns-in_err-length-clause-short c = rw (c.from_residual.ensures) (λ t rest u. none_near c.args.bytes.now c.in_err-length.ensures.near t rest)

pub returns-then-quote-ne34-clause-short : goal.returns-then-quote-ne34-clause-short
returns-then-quote-ne34-clause-short c = λ t rest u short e.
    let near = c.in_ok-length.ensures in
    let run = run_cut c.args.bytes.now near.within near.plain near.ends c.split_at.ensures.front c.split_at.ensures.back in
    c.if-quote-ne34.true (ap head (sym c.in-Some.ensures.cases.0 ∙ (run_is c.split_at.result.0.now run t rest short e).1))

pub returns-in-Err-clause-short : goal.returns-in-Err-clause-short
returns-in-Err-clause-short c = λ t rest u short e.
    let near = c.in_ok-length.ensures in
    let run = run_cut c.args.bytes.now near.within near.plain near.ends c.split_at.ensures.front c.split_at.ensures.back in
    c.in-Err.ensures.cases.0 (subst IsUtf8 (sym (run_is c.split_at.result.0.now run t rest short e).0) u)

pub returns-in-Ok : goal.returns-in-Ok
returns-in-Ok c =
    let near = c.in_ok-length.ensures in
    let run = run_cut c.args.bytes.now near.within near.plain near.ends c.split_at.ensures.front c.split_at.ensures.back in
    let len = c.split_at.ensures.front_len in
    let closed = c.in-Some.ensures.cases.0 ∙ ap (λ b. b ∷ c.in-Some.field-0-1.now) c.if-quote-ne34.false in
    record {
      text = subst (λ n. BeginsWithText c.args.bytes.now c.in-Ok.text.now (n + 1)) len
          (subst (λ t. BeginsWithText c.args.bytes.now t (length c.split_at.result.0.now + 1)) (sym c.in-Ok.ensures.cases.0) (run_closed run closed));
      short = rw (c.in-Ok.ensures.cases.0)
          (short_found c.split_at.result.0.now run c.in_ok-length.length c.in-Some.field-0-1.now len near.near closed);
    }
