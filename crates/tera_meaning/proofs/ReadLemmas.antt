-- What is read off a value by its meaning: its items and pairs, its number and its text, it as a key, and its fields.
use Rattle.std.specs.Prelude.{◌≡◌, ◌⊎◌, ℕ, ℤ, List, [], ◌∷◌, map, Option, Some, None, Ok, is_some, refl}
use Rattle.std.proofs.Common.{ap, ◌∙◌, inl, inr, rules}
use Rattle.std.specs.BTreeMap.{insert_entry}
use Rattle.std.specs.Option.{option_map}
use Rattle.std.specs.Ordering.{match_ordering}
use Rattle.std.specs.declared.cmp.Ordering.TheVariants.{Less, Equal, Greater}
use Rattle.tera_meaning.specs.Fields.{AreRisingOf, fields, rising_texts, shown_in, shown_keys}
use Rattle.tera_meaning.specs.Form.{Form, MarkedText}
use Rattle.tera_meaning.specs.Integer.{Integer}
use Rattle.tera_meaning.specs.KeyMeaning.{KeyForm, KeyMeaning, key_meaning, truth_key, number_key, text_key, key_order}
use Rattle.tera_meaning.specs.Lookup.{key_in, seen_by}
use Rattle.tera_meaning.specs.Meaning.{Layout, Meaning, layout, meaning, pair_meaning}
use Rattle.tera_meaning.specs.Pairs.{rising}
use Rattle.tera_meaning.specs.Printed.{shown_key}
use Rattle.tera_meaning.specs.Read.{text_in}
use Rattle.tera_meaning.specs.SliceRule.{shape_of}
use Rattle.tera_meaning.specs.Tree.{Members, truth, number, text, array, object, items, member, members, members_list, no_members}
use Rattle.tera_meaning.proofs.Among.{Among, among, contained}
use Rattle.tera_meaning.proofs.FieldLaws.{rising_are_rising, only_rising_texts}
use Rattle.tera_meaning.proofs.KeyLaws.{key_exact}
use Rattle.tera_meaning.proofs.MeaningLaws.{array_laid_out, layout_members, meant_pairs, pairs_meant, array_means}
use Rattle.tera_meaning.proofs.TreeLaws.{list_of_members}

-- the members that a map means
abbrev pub meant_members : Members Integer MarkedText KeyForm → Members ℤ (List ℕ) KeyMeaning
meant_members ps = members (meant_pairs ps)

pub array_shape : (ys : List Form) (zs : List Meaning) → map meaning ys ≡ zs
    → shape_of (Ok (array (items ys))) ≡ Ok (array (items zs))
array_shape ys zs e = ap Ok (array_means ys) ∙ ap (λ (ws : List Meaning). Ok (array (items ws))) e

-- and the array that is laid out so
pub array_seen : (ys : List Form) (zs : List Layout) → map layout ys ≡ zs → seen_by layout (Ok (array (items ys))) ≡ Ok (array (items zs))
array_seen ys zs e = ap Ok (array_laid_out ys) ∙ ap (λ (ws : List Layout). Ok (array (items ws))) e

pub key_meant : Meaning → Option KeyMeaning
key_meant (truth b) = Some (truth_key b)
key_meant (number z) = Some (number_key z)
key_meant (text s) = Some (text_key s)
key_meant v = None

pub key_as_meant : (v : Form) → option_map key_meaning (key_in v) ≡ key_meant (meaning v)
unfolding key_meant
key_as_meant v = search rules

pub number_meant : Meaning → Option ℤ
number_meant (number z) = Some z
number_meant v = None

pub text_meant : Meaning → Option (List ℕ)
text_meant (text s) = Some s
text_meant v = None

pub text_as_meant : (v : Form) → text_in v ≡ text_meant (meaning v)
unfolding text_meant
text_as_meant v = search rules

-- ---- fields

shown_of : {V : Type 0} → List (KeyMeaning × V) → List (List ℕ)
shown_of ps = map (λ p. shown_key p.0) ps

shown_as_meant : (ps : List (KeyForm × Form)) → shown_keys ps ≡ shown_of (map pair_meaning ps)
unfolding shown_of
shown_as_meant [] = refl
shown_as_meant (p ∷ ps) = ap (λ l. shown_key (key_meaning p.0) ∷ l) (shown_as_meant ps)

-- what the keys of a map print goes by its layout
shown_laid_out : Layout → List (List ℕ)
shown_laid_out (object ps) = shown_of (members_list ps)
shown_laid_out x = []

keys_as_laid_out : (ps : Members Integer MarkedText KeyForm) → shown_keys (members_list ps) ≡ shown_of (members_list (layout_members ps))
unfolding shown_of
keys_as_laid_out no_members = refl
keys_as_laid_out (member k x ps) = ap (λ l. shown_key (key_meaning k) ∷ l) (keys_as_laid_out ps)

shown_as_laid_out : (v : Form) → shown_in v ≡ shown_laid_out (layout v)
unfolding shown_laid_out
shown_as_laid_out v = search (rules, keys_as_laid_out)

pub shown_by_layout : (v w : Form) → layout v ≡ layout w → shown_in v ≡ shown_in w
shown_by_layout v w e = search (rules, shown_as_laid_out)

-- the keys of the rising list print the same texts
module _ {V : Type 0} (t : List ℕ) where
  insert_shows : (k : KeyMeaning) (v : V) (es : List (KeyMeaning × V)) → Among (shown_of (insert_entry key_order es k v)) t
      → (t ≡ shown_key k) ⊎ Among (shown_of es) t
  unfolding shown_of
  insert_shows k v [] a = a
  insert_shows k v (e ∷ es) i =
      elim (key_order k e.0) as (λ r. Among (shown_of (match_ordering r ((k, v) ∷ e ∷ es) ((e.0, v) ∷ es) (e ∷ insert_entry key_order es k v))) t
      → (t ≡ shown_key k) ⊎ Among (shown_of (e ∷ es)) t) [
        | Less ↦ λ a. a
        | Equal ↦ λ a. inr a
        | Greater ↦ λ a. elim a as (λ _. (t ≡ shown_key k) ⊎ Among (shown_of (e ∷ es)) t) [
          | inl first ↦ inr (inl first)
          | inr old ↦ elim (insert_shows k v es old) as (λ _. (t ≡ shown_key k) ⊎ Among (shown_of (e ∷ es)) t) [ inl is ↦ inl is | inr later ↦ inr (inr later) ]
        ]
      ] i

  shows_inserted : (k : KeyMeaning) (v : V) (es : List (KeyMeaning × V)) → (t ≡ shown_key k) ⊎ Among (shown_of es) t
      → Among (shown_of (insert_entry key_order es k v)) t
  unfolding shown_of
  shows_inserted k v [] a = a
  shows_inserted k v (e ∷ es) a =
      elim (key_order k e.0) as (λ r. key_order k e.0 ≡ r
      → Among (shown_of (match_ordering r ((k, v) ∷ e ∷ es) ((e.0, v) ∷ es) (e ∷ insert_entry key_order es k v))) t) [
        | Less ↦ λ p. a
        | Equal ↦ λ p. elim a as (λ _. Among (shown_of (e ∷ es)) t) [ inl is ↦ inl (is ∙ ap shown_key (key_exact k e.0 p)) | inr old ↦ old ]
        | Greater ↦ λ p. elim a as (λ _. Among (shown_of (e ∷ insert_entry key_order es k v)) t) [
          | inl is ↦ inr (shows_inserted k v es (inl is))
          | inr old ↦ elim old as (λ _. Among (shown_of (e ∷ insert_entry key_order es k v)) t)
              [ inl first ↦ inl first | inr later ↦ inr (shows_inserted k v es (inr later)) ]
        ]
      ] refl

  rising_shows : (es : List (KeyMeaning × V)) → Among (shown_of (rising key_order es)) t → Among (shown_of es) t
  unfolding shown_of
  rising_shows [] a = a
  rising_shows (e ∷ es) a =
      elim (insert_shows e.0 e.1 (rising key_order es) a) as (λ _. Among (shown_of (e ∷ es)) t) [ inl is ↦ inl is | inr old ↦ inr (rising_shows es old) ]

  shows_rising : (es : List (KeyMeaning × V)) → Among (shown_of es) t → Among (shown_of (rising key_order es)) t
  unfolding shown_of
  shows_rising [] a = a
  shows_rising (e ∷ es) a = shows_inserted e.0 e.1 (rising key_order es)
      (elim a as (λ _. (t ≡ shown_key e.0) ⊎ Among (shown_of (rising key_order es)) t) [ inl is ↦ inl is | inr old ↦ inr (shows_rising es old) ])

-- and so has the map of them the same fields
same_names : {V : Type 0} (es : List (KeyMeaning × V)) → rising_texts (shown_of (rising key_order es)) ≡ rising_texts (shown_of es)
same_names es =
    let are : AreRisingOf (shown_of (rising key_order es)) (rising_texts (shown_of (rising key_order es))) =
    rising_are_rising (shown_of (rising key_order es)) in
    only_rising_texts (shown_of es) (rising_texts (shown_of (rising key_order es))) (
      are.0,
      λ t. (
        λ c. contained (shown_of es) t (rising_shows t es (among (shown_of (rising key_order es)) t ((are.1 t).0 c))),
        λ c. (are.1 t).1 (contained (shown_of (rising key_order es)) t (shows_rising t es (among (shown_of es) t c))),
      ),
    )

fields_meant : Meaning → List (List ℕ)
fields_meant (object ps) = rising_texts (shown_of (members_list ps))
fields_meant v = []

fields_as_meant : (v : Form) → fields v ≡ fields_meant (meaning v)
unfolding fields_meant
fields_as_meant v = search (rules, shown_as_meant, shown_of, pairs_meant, same_names, layout_members, list_of_members, meant_pairs)

pub fields_by_meaning : (v w : Form) → meaning v ≡ meaning w → fields v ≡ fields w
fields_by_meaning v w same = search (rules, fields_as_meant)

-- ---- what is there

pub is_there : {X Y : Type 0} (f : X → Y) (o : Option X) → is_some (option_map f o) ≡ is_some o
is_there f x1 = search rules
