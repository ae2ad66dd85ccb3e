-- The first word of a tag, and what stands behind it.
use Rattle.std.proofs.Common.{◌∙◌, sym}
use Rattle.std.proofs.lemmas.Option.{IfSome_then}
use Rattle.tera_page.proofs.Spelled.{for_said, same_text, set_said}
use Rattle.tera_page.proofs.token.tag_in.Goals as goal
use Rattle.tera_page.specs.Tokens.{tag_of}

pub returns-then-eq-3 : goal.returns-then-eq-3
returns-then-eq-3 c =
    IfSome_then c.for_in.result c.for_in.ensures (λ tag behind.
    for_said (tag_of tag) c.args.inner.now c.next_word.result.0.now c.next_word.result.1.now
    (same_text _ _ (sym c.eq-else-eq-2.ensures ∙ c.if-eq-3.true)) c.next_word.ensures behind)

pub returns-then-eq-4 : goal.returns-then-eq-4
returns-then-eq-4 c =
    IfSome_then c.set_in.result c.set_in.ensures (λ tag behind.
    set_said (tag_of tag) c.args.inner.now c.next_word.result.0.now c.next_word.result.1.now
    (same_text _ _ (sym c.eq-else-eq-3.ensures ∙ c.if-eq-4.true)) c.next_word.ensures behind)
