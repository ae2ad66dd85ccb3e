-- What a text takes in turn it takes together; and what it fails on, it fails on whatever stands
-- before or behind.
use Rattle.std.specs.Prelude.{ℕ, List, [], ◌++◌, refl}
use Rattle.std.proofs.Common.{◌∙◌}
use Rattle.tera_report.specs.inner.SinkLaws.{growing_nothing, growing_joined, growing_early}
use Rattle.tera_report.specs.inner.SinkLaws.{growing_later}
use Rattle.tera_c.specs.inner.FallibleText.{TextTakes, TextFails}
use Rattle.tera_c.specs.declared.fallible_text.FallibleText.{FallibleText}

pub text_nothing : (s : FallibleText) → TextTakes s [] s
text_nothing s = (growing_nothing s.text, refl)

pub text_joined : (s : FallibleText) (a : List ℕ) (t : FallibleText) (b : List ℕ) (u : FallibleText)
    → TextTakes s a t → TextTakes t b u → TextTakes s (a ++ b) u
text_joined s a t b u (p, same) (q, still) =
    (growing_joined s.text a t.text b u.text p q, still ∙ same)

pub text_early : (s : FallibleText) (a : List ℕ) (t : FallibleText) (b : List ℕ) → TextFails s a t
    → TextFails s (a ++ b) t
text_early s a t b (p, refused) = (growing_early s.text a t.text b p, refused)

pub text_later : (s : FallibleText) (a : List ℕ) (t : FallibleText) (b : List ℕ) (u : FallibleText)
    → TextTakes s a t → TextFails t b u → TextFails s (a ++ b) u
text_later s a t b u (p, same) (q, refused) =
    (growing_later s.text a t.text b u.text p q, refused)
