use Rattle.std.proofs.Common.{◌≡◌, ℕ, refl}
use Rattle.std.proofs.lemmas.Result.{IfOk-weaker}
use Rattle.std.specs.String.{string_bytes}
use Rattle.tera_filters.proofs.Replaced.{Made, replaces}
use Rattle.tera_filters.proofs.parts.replaced.Goals as goal
use Rattle.tera_filters.specs.Parts.{replaced}

pub returns : goal.returns
returns c =
    let text = c.args.text.now in
    let to = c.args.to.now in
    let from = c.args.from in
    IfOk-weaker c.replace.result (λ t. (n : ℕ) × Made to n from text (string_bytes t)) (λ t. string_bytes t ≡ replaced to from.now text)
    (λ t made. replaces to from.now made.0 from text (string_bytes t) refl c.utf8.text made.1) c.replace.ensures.ok
