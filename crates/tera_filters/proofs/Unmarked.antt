-- No text that a filter makes is marked.
use Rattle.std.specs.Prelude.{◌≡◌, true, false, reverse, Ok, ℤ, pos, negsuc, neg_ℤ, refl}
use Rattle.std.specs.Option.{option_and_then}
use Rattle.std.specs.Str.{chars, encode_utf8_all, trim}
use Rattle.std.specs.StrCase.Lower.{str_to_lowercase}
use Rattle.std.specs.StrCase.Upper.{str_to_uppercase}
use Rattle.tera.specs.Arithmetic.{as_i128, small}
use Rattle.tera.specs.Form.{Form}
use Rattle.tera.specs.Integer.{Integer, u64}
use Rattle.tera.specs.Lookup.{name_of}
use Rattle.tera.specs.Meaning.{meaning}
use Rattle.tera.specs.Path.{place}
use Rattle.tera.specs.Read.{size_in}
use Rattle.tera.specs.Refusal.{negation_outside_i128}
use Rattle.tera.specs.SliceRule.{reversed}
use Rattle.tera.specs.Taken.{as_items, as_text}
use Rattle.tera.specs.Tree.{undefined, none, truth, number, text, bytes, array, object, items, items_list}
use Rattle.tera.specs.View.{integer}
use Rattle.tera_filters.proofs.Gives.{each_is, found_is, handed, join_is, replace_is, truncate_is}
use Rattle.tera_filters.specs.Arrays.{first_ones, is_less, no_length}
use Rattle.tera_filters.specs.Filters.{filtered}
use Rattle.tera_filters.specs.Marks.{is_safe_text, makes}
use Rattle.tera_filters.specs.Numbers.{abs_of, int_of, no_integer, without_sign}
use Rattle.tera_filters.specs.Sorting.{in_order}
use Rattle.tera_filters.specs.Texts.{made}
use Rattle.tera_filters.specs.declared.filter.Filter.{Filter}
use Rattle.tera_filters.specs.declared.filter.Filter.TheVariants.{Length, First, Last, Nth, Reverse, Slice, Get, Abs}
use Rattle.tera_filters.specs.declared.filter.Filter.TheVariants.{Upper, Lower, Trim, Join, Sort, Unique, Int, Default, Replace, Truncate}

reversed_unmarked : (value v : Form) → reversed value ≡ Ok v → is_safe_text v ≡ false
reversed_unmarked undefined v is = absurd (cc)
reversed_unmarked none v is = absurd (cc)
reversed_unmarked (truth b) v is = absurd (cc)
reversed_unmarked (number n) v is = absurd (cc)
reversed_unmarked (text t) v is =
    handed is_safe_text false (text (record { spelled = encode_utf8_all (reverse (chars t.spelled)); safe = false })) v (reversed (text t)) refl is refl
reversed_unmarked (bytes bs) v is = handed is_safe_text false (bytes (reverse bs)) v (reversed (bytes bs)) refl is refl
reversed_unmarked (array xs) v is = handed is_safe_text false (array (items (reverse (items_list xs)))) v (reversed (array xs)) refl is refl
reversed_unmarked (object ps) v is = absurd (cc)

without_sign_unmarked : (n : Integer) (z : ℤ) (v : Form) → without_sign (number n) z ≡ Ok v → is_safe_text v ≡ false
without_sign_unmarked n (pos k) v is = handed is_safe_text false (number n) v (without_sign (number n) (pos k)) refl is refl
without_sign_unmarked n (negsuc k) v is =
    found_is is_safe_text false as_i128 (λ x. refl) (option_and_then (λ a. small (neg_ℤ a)) (small n.value)) (negation_outside_i128 n.value) v is

abs_unmarked : (value v : Form) → abs_of value ≡ Ok v → is_safe_text v ≡ false
abs_unmarked undefined v is = absurd (cc)
abs_unmarked none v is = absurd (cc)
abs_unmarked (truth b) v is = absurd (cc)
abs_unmarked (number n) v is = without_sign_unmarked n n.value v is
abs_unmarked (text t) v is = absurd (cc)
abs_unmarked (bytes bs) v is = absurd (cc)
abs_unmarked (array xs) v is = absurd (cc)
abs_unmarked (object ps) v is = absurd (cc)

int_unmarked : (value v : Form) → int_of value ≡ Ok v → is_safe_text v ≡ false
int_unmarked undefined v is = absurd (cc)
int_unmarked none v is = absurd (cc)
int_unmarked (truth b) v is = absurd (cc)
int_unmarked (number n) v is = handed is_safe_text false (number n) v (int_of (number n)) refl is refl
int_unmarked (text t) v is = found_is is_safe_text false (λ n. integer u64 (pos n)) (λ n. refl) (place t.spelled) (no_integer t.spelled) v is
int_unmarked (bytes bs) v is = absurd (cc)
int_unmarked (array xs) v is = absurd (cc)
int_unmarked (object ps) v is = absurd (cc)

pub made_is_not_marked : (filter : Filter) (value arguments v : Form) → makes filter ≡ true
    → filtered filter value arguments ≡ Ok v → is_safe_text v ≡ false
made_is_not_marked Length value arguments v makes is =
    found_is is_safe_text false (λ n. integer u64 (pos n)) (λ n. refl) (size_in (meaning value)) (no_length (name_of value)) v is
made_is_not_marked First value arguments v makes is = absurd (cc)
made_is_not_marked Last value arguments v makes is = absurd (cc)
made_is_not_marked Nth value arguments v makes is = absurd (cc)
made_is_not_marked Reverse value arguments v makes is = reversed_unmarked value v is
made_is_not_marked Slice value arguments v makes is = absurd (cc)
made_is_not_marked Get value arguments v makes is = absurd (cc)
made_is_not_marked Abs value arguments v makes is = abs_unmarked value v is
made_is_not_marked Upper value arguments v makes is = each_is is_safe_text false (λ t. made (str_to_uppercase t)) (λ t. refl) (as_text value) v is
made_is_not_marked Lower value arguments v makes is = each_is is_safe_text false (λ t. made (str_to_lowercase t)) (λ t. refl) (as_text value) v is
made_is_not_marked Trim value arguments v makes is = each_is is_safe_text false (λ t. made (trim t)) (λ t. refl) (as_text value) v is
made_is_not_marked Join value arguments v makes is = join_is is_safe_text false (λ t. refl) value arguments v is
made_is_not_marked Sort value arguments v makes is =
    each_is is_safe_text false (λ xs. array (items (in_order is_less xs))) (λ xs. refl) (as_items value) v is
made_is_not_marked Unique value arguments v makes is =
    each_is is_safe_text false (λ xs. array (items (first_ones xs))) (λ xs. refl) (as_items value) v is
made_is_not_marked Int value arguments v makes is = int_unmarked value v is
made_is_not_marked Default value arguments v makes is = absurd (cc)
made_is_not_marked Replace value arguments v makes is = replace_is is_safe_text false (λ t. refl) value arguments v is
made_is_not_marked Truncate value arguments v makes is = truncate_is is_safe_text false (λ t. refl) value arguments v is
