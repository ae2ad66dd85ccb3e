use Rattle.std.proofs.Common.{subst, sym, true≢false}
use Rattle.std.specs.Prelude.{IsUtf8}
use Rattle.tera_script.proofs.Texts.{same_text}
use Rattle.tera_script.proofs.text.long_text.Goals as goal

pub returns-in_default : goal.returns-in_default
returns-in_default c = λ text used u b.
    let none = rw c.in_default.is at c.in_ok-decoded.ensures in
    none text used b

pub returns : goal.returns
returns c = λ text used u b.
    let found = rw c.in-Some.is at c.in_ok-decoded.ensures in
    let same = same_text c.args.bytes.now text c.in-Some.decoded.items used c.in-Some.used b found in
    true≢false (sym (c.in-Err.ensures.succeeds (subst IsUtf8 same.0 u)))
