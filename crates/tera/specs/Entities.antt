-- Where entities stand.
use Rattle.std.specs.Prelude.{◌≡◌, ⊤, ℕ, Bool, true, List, [], ◌∷◌, codes, IsTrue}
use Rattle.std.specs.List.{list_any}
use Rattle.tera_meaning.specs.Lookup.{begins_with}
use Rattle.tera_report.specs.Escaping.{is_special}

-- whether bytes begin with one of the five entities
abbrev pub begins_with_entity : List ℕ → Bool
begins_with_entity bytes =
    list_any (begins_with bytes) (codes "&amp;" ∷ codes "&lt;" ∷ codes "&gt;" ∷ codes "&quot;"
    ∷ codes "&#39;" ∷ [])

-- a special byte is `&`
abbrev pub IsPlainOrAmpersand : ℕ → Type 0
IsPlainOrAmpersand byte = is_special byte ≡ true → byte ≡ 38

-- each special byte begins an entity
abbrev pub SpecialBeginEntities : List ℕ → Type 0
SpecialBeginEntities [] = ⊤
SpecialBeginEntities (byte ∷ bytes) =
    (is_special byte ≡ true → IsTrue (begins_with_entity (byte ∷ bytes)))
    × SpecialBeginEntities bytes
