use Rattle.std.proofs.Common.{◌≡◌, IfOk, codes, refl, subst}
use Rattle.std.proofs.lemmas.Result.{IfOk-weaker}
use Rattle.std.specs.Fmt.{debug_escape, digits}
use Rattle.std.specs.String.{string_bytes}
use Rattle.tera.proofs.QuotedLaws.{alone_exact}
use Rattle.tera.specs.Meaning.{layout}
use Rattle.tera.specs.Quoted.{Prints}
use Rattle.uses.specs.Nested.{nested}
use Rattle.uses.proofs.nested.nested_text.Goals as goal

-- the value is known, and so is what it prints: both sides compute
pub returns-clause-ok : goal.returns-clause-ok
unfolding digits debug_escape
returns-clause-ok c =
    let prints : IfOk c.to_text.result (λ text. Prints (layout nested) (string_bytes text)) =
    subst (λ value. IfOk c.to_text.result (λ text. Prints (layout value) (string_bytes text)))
    c.in_ok-nested_value.ensures.ok c.to_text.ensures.ok in
    IfOk-weaker c.to_text.result (λ text. Prints (layout nested) (string_bytes text))
    (λ text. string_bytes text ≡ codes "{\"a\": [1, {\"b\": \"x\"}]}") (λ text known. alone_exact (layout nested) (string_bytes text) refl known) prints
