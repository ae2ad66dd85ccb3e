-- An item is found by meaning, and is well made.
use Rattle.std.proofs.Common.{refl, ap, ◌∙◌, rules}
use Rattle.std.proofs.lemmas.Bool.{and_parts}
use Rattle.std.proofs.lemmas.Option.{slice_get-map}
use Rattle.std.proofs.lemmas.Str.{scalars-chars, IsUtf8-encode}
use Rattle.std.specs.Char.{encode_utf8}
use Rattle.std.specs.Option.{option_map, option_and_then, ok_or, unwrap_or}
use Rattle.std.specs.Prelude.{◌≡◌, ℕ, suc, ℤ, true, List, [], Option, Some, None, Result, Ok, Err, IfOk, refl, ◌∷◌, map, slice_get, length, unwrap_or, IfSome}
use Rattle.std.specs.Str.{chars, IsUtf8}
use Rattle.tera_meaning.specs.Form.{Form, MarkedText}
use Rattle.tera_meaning.specs.Integer.{Integer}
use Rattle.tera_meaning.specs.KeyMeaning.{KeyForm, KeyMeaning, key_meaning, key_order}
use Rattle.tera_meaning.specs.Lookup.{key_in, item, indexed, part_at, place_of, character_of, seen_by, name_of}
use Rattle.tera_meaning.specs.Meaning.{Layout, layout, meaning, Meaning}
use Rattle.tera_meaning.specs.Pairs.{key_form_order, value_at}
use Rattle.tera_meaning.specs.Read.{number_in}
use Rattle.tera_meaning.specs.Tree.{Items, undefined, text, array, object, items_list, members_list, Members}
use Rattle.tera_meaning.specs.WellMade.{IsWellMade, AreWellMade, AreWellMadeMembers}
use Rattle.tera_report.specs.Refusal.{Container, in_array, in_text, not_a_map_key, not_an_index, Refusal}
use lib.Utf8.{scalars}
use Rattle.tera_meaning.proofs.MeaningLaws.{layout_items, layout_members, items_laid_out, found_laid_out, meant_items, items_meant, found_pair}
use Rattle.tera_meaning.proofs.ReadLemmas.{meant_members, key_meant, key_as_meant, number_meant}
use Rattle.tera_meaning.proofs.SoundLemmas.{Sound, sound_pair, sound_place}
use Rattle.std.proofs.lemmas.List.{length-map}

got_at : {X Y : Type 0} (f : X → Y) (xs : List X) (o : Option ℕ) → option_map f (option_and_then (slice_get xs) o) ≡ option_and_then (slice_get (map f xs)) o
got_at f xs x2 = search (rules, slice_get-map)

part_as_meant : (xs : Items Integer MarkedText KeyForm) (z : ℤ) → option_map meaning (part_at (items_list xs) z) ≡ part_at (items_list (meant_items xs)) z
part_as_meant xs z = search (rules, got_at, length-map, items_meant)

-- the character of a text at an index
char_at : List ℕ → ℤ → Option Meaning
char_at s z = option_map (λ c. text (encode_utf8 c)) (part_at (chars s) z)

char_as_meant : (t : MarkedText) (z : ℤ) → option_map meaning (option_map (character_of t) (part_at (chars t.spelled) z)) ≡ char_at t.spelled z
unfolding char_at
char_as_meant t z = search rules

indexed_meant : Container → Option ℤ → (ℤ → Option Meaning) → Result Meaning Refusal
indexed_meant container None part = Err (not_an_index container [])
indexed_meant container (Some z) part = Ok (unwrap_or (part z) undefined)

unwrapped : (o : Option Form) → meaning (unwrap_or o undefined) ≡ unwrap_or (option_map meaning o) undefined
unwrapped x0 = search rules

indexed_as_meant : (container : Container) (index : Form) (part : ℤ → Option Form) (meant : ℤ → Option Meaning)
    → ((z : ℤ) → option_map meaning (part z) ≡ meant z)
    → seen_by meaning (indexed container index part) ≡ indexed_meant container (number_in index) meant
unfolding indexed_meant
indexed_as_meant container index part meant h = search rules

at_key_meant : Members ℤ (List ℕ) KeyMeaning → Option KeyMeaning → Result Meaning Refusal
at_key_meant ps None = Err (not_a_map_key [])
at_key_meant ps (Some k) = Ok (unwrap_or (value_at key_order (members_list ps) k) undefined)

at_key_as_meant : (ps : Members Integer MarkedText KeyForm) (i : Form)
    → seen_by meaning (item (object ps) i) ≡ at_key_meant (meant_members ps) (option_map key_meaning (key_in i))
unfolding at_key_meant
at_key_as_meant ps i = by (key_in i)
  where
    by : (k : Option KeyForm) → seen_by meaning (ok_or (option_map (λ k. unwrap_or (value_at key_form_order (members_list ps) k) undefined) k)
        (not_a_map_key (name_of i))) ≡ at_key_meant (meant_members ps) (option_map key_meaning k)
    by None = refl
    by (Some k) = ap Ok (unwrapped (value_at key_form_order (members_list ps) k) ∙ ap (λ o. unwrap_or o undefined) (found_pair ps (key_meaning k)))

item_meant : Meaning → Option ℤ → Option KeyMeaning → Result Meaning Refusal
item_meant (text s) n k = indexed_meant in_text n (char_at s)
item_meant (array xs) n k = indexed_meant in_array n (part_at (items_list xs))
item_meant (object ps) n k = at_key_meant ps k
item_meant x n k = Ok undefined

item_as_meant : (v i : Form) → seen_by meaning (item v i) ≡ item_meant (meaning v) (number_in i) (option_map key_meaning (key_in i))
unfolding item_meant
item_as_meant v i = search (rules, indexed_as_meant, char_as_meant, meant_items, part_as_meant, at_key_as_meant)

pub by_meaning : (v i w j : Form) → meaning v ≡ meaning w → meaning i ≡ meaning j → seen_by meaning (item v i) ≡ seen_by meaning (item w j)
by_meaning v i w j same index = search (rules, item_as_meant, item_meant, number_meant, key_as_meant, key_meant)

-- ---- by layout

part_as_laid_out : (xs : Items Integer MarkedText KeyForm) (z : ℤ) → option_map layout (part_at (items_list xs) z) ≡ part_at (items_list (layout_items xs)) z
part_as_laid_out xs z = search (rules, got_at, length-map, items_laid_out)

char_as_laid_out : (t : MarkedText) (z : ℤ) → option_map layout (option_map (character_of t) (part_at (chars t.spelled) z)) ≡ char_at t.spelled z
unfolding char_at
char_as_laid_out t z = search rules

indexed_as_laid_out : (container : Container) (index : Form) (part : ℤ → Option Form) (laid : ℤ → Option Layout)
    → ((z : ℤ) → option_map layout (part z) ≡ laid z)
    → seen_by layout (indexed container index part) ≡ indexed_meant container (number_in index) laid
unfolding indexed_meant
indexed_as_laid_out container index part laid h = search rules

laid_out_or : (o : Option Form) → layout (unwrap_or o undefined) ≡ unwrap_or (option_map layout o) undefined
laid_out_or x0 = search rules

at_key_as_laid_out : (ps : Members Integer MarkedText KeyForm) (i : Form)
    → seen_by layout (item (object ps) i) ≡ at_key_meant (layout_members ps) (option_map key_meaning (key_in i))
unfolding at_key_meant
at_key_as_laid_out ps i = by (key_in i)
  where
    by : (k : Option KeyForm) → seen_by layout (ok_or (option_map (λ k. unwrap_or (value_at key_form_order (members_list ps) k) undefined) k)
        (not_a_map_key (name_of i))) ≡ at_key_meant (layout_members ps) (option_map key_meaning k)
    by None = refl
    by (Some k) = ap Ok (laid_out_or (value_at key_form_order (members_list ps) k) ∙ ap (λ o. unwrap_or o undefined) (found_laid_out ps (key_meaning k)))

item_as_laid_out : (v i : Form) → seen_by layout (item v i) ≡ item_meant (layout v) (number_in i) (option_map key_meaning (key_in i))
unfolding item_meant
item_as_laid_out v i = search (rules, indexed_as_laid_out, char_as_laid_out, layout_items, part_as_laid_out, at_key_as_laid_out)

pub by_layout : (v i w j : Form) → layout v ≡ layout w → meaning i ≡ meaning j → seen_by layout (item v i) ≡ seen_by layout (item w j)
by_layout v i w j same index = search (rules, item_as_laid_out, item_meant, number_meant, key_as_meant, key_meant)

-- ---- well made

sound_part : (xs : Items Integer MarkedText KeyForm) (o : Option ℕ) → AreWellMade xs → Sound (option_and_then (slice_get (items_list xs)) o)
sound_part xs x1 h = search (rules, sound_place)

sound_char : (cs : List ℕ) (n : ℕ) → scalars cs ≡ true → IfSome (slice_get cs n) (λ c. IsUtf8 (encode_utf8 c))
sound_char (c ∷ cs) (suc n) h = search (rules, and_parts, (sound_char cs n))
sound_char x0 n h = search (rules, IsUtf8-encode, and_parts)

sound_char_at : (cs : List ℕ) (o : Option ℕ) → scalars cs ≡ true → IfSome (option_and_then (slice_get cs) o) (λ c. IsUtf8 (encode_utf8 c))
sound_char_at cs x1 h = search (rules, sound_char)

sound_text : (t : MarkedText) (o : Option ℕ) → IfSome o (λ c. IsUtf8 (encode_utf8 c)) → Sound (option_map (character_of t) o)
sound_text t x1 h = search rules

sound_or : (o : Option Form) → Sound o → IsWellMade (unwrap_or o undefined)
sound_or x0 h = search rules

sound_index : (container : Container) (index : Form) (part : ℤ → Option Form) → ((z : ℤ) → Sound (part z)) → IfOk (indexed container index part) IsWellMade
sound_index container index part h = search rules

sound_key : (ps : Members Integer MarkedText KeyForm) (i : Form) → AreWellMadeMembers ps → IfOk (item (object ps) i) IsWellMade
sound_key ps i h = by (key_in i)
  where
    by : (k : Option KeyForm) → IfOk (ok_or (option_map (λ k. unwrap_or (value_at key_form_order (members_list ps) k) undefined) k) (not_a_map_key (name_of i)))
        IsWellMade
    by None = tt
    by (Some k) = sound_or (value_at key_form_order (members_list ps) k) (sound_pair ps k h)

pub well_made : (v i : Form) → IsWellMade v → IfOk (item v i) IsWellMade
well_made (text t) i h = search (rules, sound_index, sound_text, sound_char_at, scalars-chars)
well_made (array xs) i h = sound_index in_array i _ (λ z. sound_part xs (place_of (length (items_list xs)) z) h)
well_made (object ps) i h = sound_key ps i h.1
well_made v i h = tt
