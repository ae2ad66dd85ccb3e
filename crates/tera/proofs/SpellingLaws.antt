-- Escaped bytes have no special one but the `&` of an entity.
use Rattle.std.specs.Prelude.{◌≡◌, ℕ, true, false, List, [], ◌∷◌, refl}
use Rattle.std.specs.List.{AllByRecursion, flat_map}
use Rattle.std.proofs.Common.{subst}
use Rattle.tera_report.specs.Escaping.{Token, itself, ampersand, less_than, greater_than, double_quote, single_quote, spelling, is_special, IsToken, Spells}
use Rattle.tera.specs.Entities.{IsPlainOrAmpersand, SpecialBeginEntities}

not_both : {P : Type 0} (byte : ℕ) → is_special byte ≡ false → is_special byte ≡ true → P
not_both byte plain special = absurd (cc)

never : {P : Type 0} → false ≡ true → P
never e = absurd (cc)

ampersands : (tokens : List Token) → AllByRecursion IsToken tokens → AllByRecursion IsPlainOrAmpersand (flat_map spelling tokens)
ampersands [] proper = tt
ampersands (itself byte ∷ tokens) proper = (not_both byte proper.0, ampersands tokens proper.1)
ampersands (ampersand ∷ tokens) proper = ((λ _. refl), (never, (never, (never, (never, ampersands tokens proper.1)))))
ampersands (less_than ∷ tokens) proper = ((λ _. refl), (never, (never, (never, ampersands tokens proper.1))))
ampersands (greater_than ∷ tokens) proper = ((λ _. refl), (never, (never, (never, ampersands tokens proper.1))))
ampersands (double_quote ∷ tokens) proper = ((λ _. refl), (never, (never, (never, (never, (never, ampersands tokens proper.1))))))
ampersands (single_quote ∷ tokens) proper = ((λ _. refl), (never, (never, (never, (never, ampersands tokens proper.1)))))

entities : (tokens : List Token) → AllByRecursion IsToken tokens → SpecialBeginEntities (flat_map spelling tokens)
entities [] proper = tt
entities (itself byte ∷ tokens) proper = (not_both byte proper.0, entities tokens proper.1)
entities (ampersand ∷ tokens) proper = ((λ _. refl), (never, (never, (never, (never, entities tokens proper.1)))))
entities (less_than ∷ tokens) proper = ((λ _. refl), (never, (never, (never, entities tokens proper.1))))
entities (greater_than ∷ tokens) proper = ((λ _. refl), (never, (never, (never, entities tokens proper.1))))
entities (double_quote ∷ tokens) proper = ((λ _. refl), (never, (never, (never, (never, (never, entities tokens proper.1))))))
entities (single_quote ∷ tokens) proper = ((λ _. refl), (never, (never, (never, (never, entities tokens proper.1)))))

pub special_is_ampersand : (bytes text : List ℕ) → Spells bytes text → AllByRecursion IsPlainOrAmpersand bytes
special_is_ampersand bytes text spells = subst (AllByRecursion IsPlainOrAmpersand) spells.spelled (ampersands spells.tokens spells.proper)

pub special_begin_entities : (bytes text : List ℕ) → Spells bytes text → SpecialBeginEntities bytes
special_begin_entities bytes text spells = subst SpecialBeginEntities spells.spelled (entities spells.tokens spells.proper)
