use Rattle.std.proofs.Common.{◌++◌, drop, refl, inl, subst, arith, length-take-le}
use Rattle.tera_report.specs.Escaping.{escaped, Spells}
use Rattle.tera_report.proofs.EscapeLaws.{Spells-escaped}
use Rattle.tera_c.proofs.tera_escape.Goals as goal

pub returns-then-escaped-len : goal.returns-then-escaped-len
returns-then-escaped-len c =
    let same = c.in-Ok.ensures in
    let made = escaped c.in-Ok.text.now in
    let short = c.if-escaped-len.true in
    inl (
      same.1,
      (
        made,
        subst (Spells made) same.0 (Spells-escaped c.in-Ok.text.now),
        record {
          len_is = c.in-Some.ensures;
          fits = λ fits. absurd (omega (arith, fits, c.in-Some.ensures, short));
          small = λ _. (refl, refl);
        },
      ),
    )

pub returns : goal.returns
returns c =
    let same = c.in-Ok.ensures in
    let made = escaped c.in-Ok.text.now in
    let len = c.in-Some.ensures in
    let long = c.if-escaped-len.false in
    let old = c.args.escaped.now in
    let is = c.escape_into.ensures (omega (arith, length-take-le c.in-Some.len old long, len)) in
    inl (
      same.1,
      (
        made,
        subst (Spells made) same.0 (Spells-escaped c.in-Ok.text.now),
        record {
          len_is = len;
          fits = λ _. (refl, λ i. is i ++ drop (len i) old);
          small = λ less. absurd (omega (arith, less, len, long));
        },
      ),
    )
