use Rattle.std.proofs.Common.{◌≡◌, IfOk, codes, refl, subst}
use Rattle.std.proofs.lemmas.Result.{IfOk-weaker}
use Rattle.std.specs.Fmt.{debug_escape, digits}
use Rattle.std.specs.String.{string_bytes}
use Rattle.tera.proofs.QuotedLaws.{alone_exact}
use Rattle.tera.specs.Meaning.{layout}
use Rattle.tera.specs.Quoted.{Prints}
use Rattle.uses.specs.Ordered.{sizes}
use Rattle.uses.proofs.ordered.sizes_text.Goals as goal

-- the value is known, and so is what it prints: both sides compute
pub returns-clause-ok : goal.returns-clause-ok
unfolding digits debug_escape
returns-clause-ok c =
    let prints : IfOk c.to_text.result (λ text. Prints (layout sizes) (string_bytes text)) =
    subst (λ value. IfOk c.to_text.result (λ text. Prints (layout value) (string_bytes text)))
    c.in_ok-sizes.ensures.ok c.to_text.ensures.ok in
    IfOk-weaker c.to_text.result (λ text. Prints (layout sizes) (string_bytes text))
    (λ text. string_bytes text ≡ codes "{\"width\": 80, \"height\": 24}") (λ text known. alone_exact (layout sizes) (string_bytes text) refl known) prints
