-- A text that grows, and keeps in mind that memory for it was refused.
use Rattle.std.specs.Prelude.{◌≡◌, ℕ, true, List}
use Rattle.tera_report.specs.Growing.{GrowingTakes, GrowingFails, grown_bytes}
use Rattle.tera_c.specs.declared.fallible_text.FallibleText.{FallibleText}

-- the bytes that it holds
abbrev pub text_bytes : FallibleText → List ℕ
text_bytes k = grown_bytes k.text

-- the text grew by the bytes, and no refusal is new
abbrev pub TextTakes : FallibleText → List ℕ → FallibleText → Type 0
TextTakes old bytes new = GrowingTakes old.text bytes new.text × (new.refused ≡ old.refused)

-- memory for the bytes was refused, and that is kept in mind
abbrev pub TextFails : FallibleText → List ℕ → FallibleText → Type 0
TextFails old bytes new = GrowingFails old.text bytes new.text × (new.refused ≡ true)
