-- Of equal keys that are written in a map the first stands in its place, with the last value.
use Rattle.std.specs.Prelude.{◌≡◌, Bool, true, false, cond, if◌then◌else◌, List, [], ◌∷◌, ◌++◌, reverse, Some, None, refl}
use Rattle.std.proofs.Common.{sym, ◌∙◌, ap, append_assoc, append-nil, arith}
use Rattle.std.proofs.lemmas.List.{reverse-append}
use Rattle.std.proofs.lemmas.List.Sums.{fold-append}
use Rattle.std.specs.Cmp.{alike_right, Equal-is}
use Rattle.std.specs.List.{IsDistinct}
use Rattle.std.specs.Map.{keys_of}
use Rattle.std.specs.Option.{option_or}
use Rattle.std.specs.Ordering.{eq_by_cmp, is_eq}
use Rattle.tera_meaning.specs.Form.{Form}
use Rattle.tera_meaning.specs.KeyMeaning.{KeyForm}
use Rattle.tera_meaning.specs.Pairs.{HasDistinctKeys, put, put_all, value_at, key_form_order}
use Rattle.tera_meaning.proofs.PutLaws.{distinct_put_all, found_put}
use Rattle.tera_meaning.proofs.KeyLaws.{form_total}
use Rattle.tera_script.specs.Literal.{in_places, key_at}

abbrev ties : KeyForm → KeyForm → Bool
ties = eq_by_cmp key_form_order

-- of two keys that tie a key ties with both or with neither
tied : (q k l : KeyForm) → ties k l ≡ true → ties q k ≡ ties q l
tied q k l t = ap is_eq (alike_right form_total k l q ((Equal-is (key_form_order k l)).0 t))

-- ---- one pair that is put

-- a key is there where it was there, and else where it was put
key_put : (ps : List (KeyForm × Form)) (k : KeyForm) (v : Form) (q : KeyForm)
    → key_at (put key_form_order ps k v) q ≡ option_or (key_at ps q) (cond (ties q k) (Some k) None)
key_put [] k v q = refl
key_put (p ∷ ps) k v q = grind (arith, key_put ps k v q, tied q k p.0)

-- a new key stands behind all others, and every other stays in its place
keys_put : (ps : List (KeyForm × Form)) (k : KeyForm) (v : Form)
    → (new : List KeyForm) × (keys_of (put key_form_order ps k v) ≡ keys_of ps ++ new)
keys_put [] k v = (k ∷ [], refl)
keys_put (p ∷ ps) k v =
    elim (ties k p.0) as (λ b. (new : List KeyForm) × (keys_of (if b then (p.0, v) ∷ ps else p ∷ put key_form_order ps k v) ≡ keys_of (p ∷ ps) ++ new)) [
      | true ↦ ([], sym (append-nil (keys_of (p ∷ ps))))
      | false ↦ let behind = keys_put ps k v in (behind.0, ap (λ ks. p.0 ∷ ks) behind.1)
    ]

-- ---- all that are put in turn

keys_put_all : (es ps : List (KeyForm × Form)) → (new : List KeyForm) × (keys_of (put_all key_form_order ps es) ≡ keys_of ps ++ new)
keys_put_all [] ps = ([], sym (append-nil (keys_of ps)))
keys_put_all (e ∷ es) ps =
    let one = keys_put ps e.0 e.1 in
    let more = keys_put_all es (put key_form_order ps e.0 e.1) in
    (one.0 ++ more.0, more.1 ∙ ap (λ ks. ks ++ more.0) one.1 ∙ append_assoc (keys_of ps) one.0 more.0)

key_put_all : (es ps : List (KeyForm × Form)) (q : KeyForm) → key_at (put_all key_form_order ps es) q ≡ option_or (key_at ps q) (key_at es q)
key_put_all [] ps q = grind arith
key_put_all (e ∷ es) ps q = grind (arith, key_put_all es (put key_form_order ps e.0 e.1) q, key_put ps e.0 e.1 q)

value_behind : (xs : List (KeyForm × Form)) (e : KeyForm × Form) (q : KeyForm)
    → value_at key_form_order (xs ++ e ∷ []) q ≡ option_or (value_at key_form_order xs q) (cond (ties q e.0) (Some e.1) None)
value_behind [] e q = refl
value_behind (x ∷ xs) e q = grind (arith, value_behind xs e q)

value_put_all : (es ps : List (KeyForm × Form)) (q : KeyForm)
    → value_at key_form_order (put_all key_form_order ps es) q ≡ option_or (value_at key_form_order (reverse es) q) (value_at key_form_order ps q)
value_put_all [] ps q = refl
value_put_all (e ∷ es) ps q = grind (
  arith,
  value_put_all es (put key_form_order ps e.0 e.1) q,
  found_put key_form_order form_total ps e.0 e.1 q,
  value_behind (reverse es) e q,
  reverse-append (e ∷ []) es,
)

-- ---- what is written

pub last_value : (written : List (KeyForm × Form)) (key : KeyForm) → value_at key_form_order (in_places written) key ≡ value_at key_form_order (reverse written)
    key
last_value written key = grind (arith, value_put_all written [] key)

pub first_key : (written : List (KeyForm × Form)) (key : KeyForm) → key_at (in_places written) key ≡ key_at written key
first_key written key = key_put_all written [] key

pub places_stay : (written later : List (KeyForm × Form)) → (new : List KeyForm)
    × (keys_of (in_places (written ++ later)) ≡ keys_of (in_places written) ++ new)
places_stay written later =
    let more = keys_put_all later (in_places written) in
    (more.0, ap keys_of (fold-append (λ ps e. put key_form_order ps e.0 e.1) [] written later) ∙ more.1)

pub keys_distinct : (written : List (KeyForm × Form)) → HasDistinctKeys key_form_order (in_places written)
unfolding IsDistinct
keys_distinct written = distinct_put_all key_form_order form_total [] written tt
