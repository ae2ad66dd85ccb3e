-- A reversed value is found by meaning, and is well made.
use Rattle.std.proofs.Common.{refl, rules}
use Rattle.std.proofs.lemmas.Str.{scalars-chars}
use Rattle.std.specs.Prelude.{◌≡◌, List, [], Result, Ok, Err, IfOk, refl, ◌∷◌, map, reverse}
use Rattle.std.specs.Str.{chars, encode_utf8_all}
use Rattle.tera_meaning.specs.Form.{Form}
use Rattle.tera_meaning.specs.Lookup.{seen_by}
use Rattle.tera_meaning.specs.Meaning.{layout, meaning, Meaning}
use Rattle.tera_meaning.specs.SliceRule.{reversed, shape_of}
use Rattle.tera_meaning.specs.Tree.{text, bytes, array, items, items_list}
use Rattle.tera_meaning.specs.WellMade.{IsWellMade}
use Rattle.tera_report.specs.Refusal.{Refusal, not_reversible}
use mathlib.Core.List.{reverse_aux}
use Rattle.tera_meaning.proofs.MeaningLaws.{items_laid_out, items_meant}
use Rattle.tera_meaning.proofs.ReadLemmas.{array_seen, array_shape}
use Rattle.tera_meaning.proofs.SoundLemmas.{all_reversed, listed_well, items_well, each_scalar, spelled_well}

module _ {X Y : Type 0} (f : X → Y) where
  map_onto : (xs ys : List X) → map f (reverse_aux xs ys) ≡ reverse_aux (map f xs) (map f ys)
  map_onto [] ys = refl
  map_onto (x ∷ xs) ys = map_onto xs (x ∷ ys)

  reverse_mapped : (xs : List X) → map f (reverse xs) ≡ reverse (map f xs)
  reverse_mapped xs = map_onto xs []

abbrev reversed_meaning : Meaning → Result Meaning Refusal
reversed_meaning (array xs) = Ok (array (items (reverse (items_list xs))))
reversed_meaning (text t) = Ok (text (encode_utf8_all (reverse (chars t))))
reversed_meaning (bytes bs) = Ok (bytes (reverse bs))
reversed_meaning x = Err (not_reversible [])

reversed_means : (v : Form) → shape_of (reversed v) ≡ reversed_meaning (meaning v)
reversed_means v = search (rules, array_shape, reverse_mapped, items_meant)

pub by_meaning : (v w : Form) → meaning v ≡ meaning w → shape_of (reversed v) ≡ shape_of (reversed w)
by_meaning v w e = search (rules, reversed_means)

reversed_lays_out : (v : Form) → seen_by layout (reversed v) ≡ reversed_meaning (layout v)
reversed_lays_out v = search (rules, array_seen, reverse_mapped, items_laid_out)

pub by_layout : (v w : Form) → layout v ≡ layout w → seen_by layout (reversed v) ≡ seen_by layout (reversed w)
by_layout v w e = search (rules, reversed_lays_out)

pub well_made : (v : Form) → IsWellMade v → IfOk (reversed v) IsWellMade
well_made v h = search (rules, spelled_well, all_reversed, each_scalar, scalars-chars, items_well, listed_well)
