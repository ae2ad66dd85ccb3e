-- Which answers of filters have parts, are texts, or are made of no items.
use Rattle.std.specs.Prelude.{◌≡◌, Bool, true, false, cond, List, [], ◌∷◌, reverse, codes, ℤ, pos, Option, None, is_some, Result, Ok, Err, refl}
use Rattle.std.specs.Str.{chars, encode_utf8_all}
use Rattle.std.proofs.Common.{ap, sym, subst, ◌∙◌}
use Rattle.tera.specs.Arithmetic.{and_then, each_ok}
use Rattle.tera.specs.Conversion.{IntegerType, converted}
use Rattle.tera.specs.Form.{Form}
use Rattle.tera.specs.Meaning.{meaning}
use Rattle.tera.specs.Read.{iterable_in, text_in, truthy_in}
use Rattle.tera.specs.Refusal.{Refusal}
use Rattle.tera.specs.Slice.{slice_of, sliced}
use Rattle.tera.specs.SliceRule.{reversed}
use Rattle.tera.specs.Taken.{as_items}
use Rattle.tera.specs.Tree.{undefined, none, truth, number, text, bytes, array, object, items, items_list}
use Rattle.tera_filters.proofs.Gives.{each_is, handed, then_is}
use Rattle.tera_filters.specs.Arguments.{optional}
use Rattle.tera_filters.specs.Arrays.{first_ones, is_less, sort_of, unique_of}
use Rattle.tera_filters.specs.Arrays as arrays
use Rattle.tera_filters.specs.Sorting.{in_order, placed}

abbrev pub is_text : Form → Bool
is_text v = is_some (text_in v)

-- a value with parts is none without, and a text is no other value
pub has_parts : {P : Type 0} (v : Form) → iterable_in v ≡ true → iterable_in v ≡ false → P
has_parts v has plain = absurd (let wrong = sym has ∙ plain in cc)

pub is_a_text : {P : Type 0} (v : Form) → is_text v ≡ true → text_in v ≡ None → P
is_a_text v is other = absurd (let wrong = sym is ∙ ap is_some other in cc)

pub reversed_has_parts : (value v : Form) → reversed value ≡ Ok v → iterable_in v ≡ true
reversed_has_parts undefined v is = absurd (cc)
reversed_has_parts none v is = absurd (cc)
reversed_has_parts (truth b) v is = absurd (cc)
reversed_has_parts (number n) v is = absurd (cc)
reversed_has_parts (text t) v is =
    handed iterable_in true (text (record { spelled = encode_utf8_all (reverse (chars t.spelled)); safe = false })) v (reversed (text t)) refl is refl
reversed_has_parts (bytes bs) v is = handed iterable_in true (bytes (reverse bs)) v (reversed (bytes bs)) refl is refl
reversed_has_parts (array xs) v is = handed iterable_in true (array (items (reverse (items_list xs)))) v (reversed (array xs)) refl is refl
reversed_has_parts (object ps) v is = absurd (cc)

sliced_has_parts : (value : Form) (start end : Option ℤ) (v : Form) → sliced value start end None ≡ Ok v → iterable_in v ≡ true
sliced_has_parts undefined start end v is = absurd (cc)
sliced_has_parts none start end v is = absurd (cc)
sliced_has_parts (truth b) start end v is = absurd (cc)
sliced_has_parts (number n) start end v is = absurd (cc)
sliced_has_parts (text t) start end v is =
    handed iterable_in true (text (record { spelled = encode_utf8_all (slice_of (chars t.spelled) start end (pos 1)); safe = t.safe })) v
    (sliced (text t) start end None) refl is refl
sliced_has_parts (bytes bs) start end v is = absurd (cc)
sliced_has_parts (array xs) start end v is =
    handed iterable_in true (array (items (slice_of (items_list xs) start end (pos 1)))) v (sliced (array xs) start end None) refl is refl
sliced_has_parts (object ps) start end v is = absurd (cc)

pub slice_has_parts : (value arguments v : Form) → arrays.slice_of value arguments ≡ Ok v → iterable_in v ≡ true
slice_has_parts value arguments v is =
    let given = optional (converted IntegerType.i128) arguments in
    then_is iterable_in true (given (codes "start")) (λ start. and_then (given (codes "end")) (λ end. sliced value start end None)) v
    (λ start. then_is iterable_in true (given (codes "end")) (λ end. sliced value start end None) v
    (λ end. sliced_has_parts value start end v)) is

pub sort_has_parts : (value v : Form) → sort_of value ≡ Ok v → iterable_in v ≡ true
sort_has_parts value v is = each_is iterable_in true (λ xs. array (items (in_order is_less xs))) (λ xs. refl) (as_items value) v is

pub unique_has_parts : (value v : Form) → unique_of value ≡ Ok v → iterable_in v ≡ true
unique_has_parts value v is = each_is iterable_in true (λ xs. array (items (first_ones xs))) (λ xs. refl) (as_items value) v is

-- an empty array is made of no items
no_items : (xs : List Form) → truthy_in (meaning (array (items xs))) ≡ false → xs ≡ []
no_items [] is = refl
no_items (x ∷ xs) is = absurd (cc)

of_no_items : (f : List Form → List Form) → ((xs : List Form) → f xs ≡ [] → xs ≡ []) → (r : Result (List Form) Refusal) (v : Form)
    → each_ok (λ xs. array (items (f xs))) r ≡ Ok v → truthy_in (meaning v) ≡ false → r ≡ Ok []
of_no_items f from (Ok xs) v is empty =
    let same : v ≡ array (items (f xs)) = cc in ap (λ l. Ok l) (from xs (no_items (f xs) (subst (λ w. truthy_in (meaning w) ≡ false) same empty)))
of_no_items f from (Err refusal) v is empty = absurd (cc)

placed_some : (x : Form) (ys : List Form) → placed is_less x ys ≡ [] → ⊥
placed_some x [] is = cc
placed_some x (y ∷ ys) is =
    elim (is_less y x) as (λ b. cond b (y ∷ placed is_less x ys) (x ∷ y ∷ ys) ≡ [] → ⊥) [ true ↦ λ wrong. cc | false ↦ λ wrong. cc ] is

none_ordered : (xs : List Form) → in_order is_less xs ≡ [] → xs ≡ []
none_ordered [] is = refl
none_ordered (x ∷ xs) is = absurd (placed_some x (in_order is_less xs) is)

none_first : (xs : List Form) → first_ones xs ≡ [] → xs ≡ []
none_first [] is = refl
none_first (x ∷ xs) is = absurd (cc)

pub sort_of_none : (value v : Form) → sort_of value ≡ Ok v → truthy_in (meaning v) ≡ false → as_items value ≡ Ok []
sort_of_none value v is empty = of_no_items (in_order is_less) none_ordered (as_items value) v is empty

pub unique_of_none : (value v : Form) → unique_of value ≡ Ok v → truthy_in (meaning v) ≡ false → as_items value ≡ Ok []
unique_of_none value v is empty = of_no_items first_ones none_first (as_items value) v is empty
