-- What arrays and maps have and hold, by the lists of their items and pairs.
use Rattle.std.specs.Prelude.{◌≡◌, ◌<◌, ℕ, Bool, true, List, [], ◌∷◌, length, Option, Some, None, is_some, Ok, refl}
use Rattle.std.proofs.Common.{◌∙◌, ap, arith, Bor}
use Rattle.std.proofs.lemmas.Str.{length-encode, len_utf8_bounds}
use Rattle.std.proofs.lemmas.Str.Pattern.{contains_text}
use Rattle.std.specs.Bool.{MatchBool}
use Rattle.std.specs.Char.{encode_utf8}
use Rattle.std.specs.List.{list_any}
use Rattle.std.specs.Str.Pattern.{HasMatch, FindsText}
use Rattle.std.specs.Option.{option_copied}
use Rattle.tera_meaning.specs.Form.{Form}
use Rattle.tera_meaning.specs.Lookup.{item, indexed, part_at, holds, occurs, paired, key_in}
use Rattle.tera_meaning.proofs.LookupLaws.{tells_occurs}
use Rattle.tera_meaning.specs.KeyMeaning.{KeyForm}
use Rattle.tera_meaning.specs.Meaning.{meaning}
use Rattle.tera_meaning.specs.Order.{same}
use Rattle.tera_meaning.specs.Read.{is_nonempty}
use Rattle.tera_meaning.specs.Tree.{array, object, items, members}
use Rattle.tera_meaning.proofs.TreeLaws.{list_of_items, list_of_members}
use Rattle.tera_report.specs.Refusal.{in_array}

pub item_of_list : (value index : Form) (xs : List Form) → value ≡ array (items xs) → item value index ≡ indexed in_array index (part_at xs)
item_of_list value index xs is = ap (λ v. item v index) is ∙ ap (λ ys. indexed in_array index (part_at ys)) (list_of_items xs)

pub list_holds : (value x : Form) (xs : List Form) → value ≡ array (items xs) → holds value x ≡ Ok (list_any (λ y. same (meaning y) (meaning x)) xs)
list_holds value x xs is = ap (λ v. holds v x) is ∙ ap (λ ys. Ok (list_any (λ y. same (meaning y) (meaning x)) ys)) (list_of_items xs)

pub pairs_hold : (value x : Form) (ps : List (KeyForm × Form)) → value ≡ object (members ps) → holds value x ≡ Ok (is_some (paired ps (key_in x)))
pairs_hold value x ps is = ap (λ v. holds v x) is ∙ ap (λ qs. Ok (is_some (paired qs (key_in x)))) (list_of_members ps)

pub some_copied : {X : Type 0} (found : Option (Bor X)) → is_some (option_copied found) ≡ is_some found
some_copied None = refl
some_copied (Some x) = refl

-- what `contains` tells of a text
pub told_occurs : (told : Bool) (part bs : List ℕ) → MatchBool told (HasMatch (FindsText part) bs) (FindsText part bs None) → told ≡ occurs part bs
told_occurs told part bs h = tells_occurs told part bs (contains_text told part bs h)

filled : (bs : List ℕ) → 0 < length bs → is_nonempty bs ≡ true
filled [] h = absurd (omega arith)
filled (b ∷ bs) h = refl

-- a character has a byte
pub some_encoded : (c : ℕ) → is_nonempty (encode_utf8 c) ≡ true
some_encoded c = filled (encode_utf8 c) (omega (arith, length-encode c, (len_utf8_bounds c).0))

-- items and pairs are the lists that they were made of
pub ruleset listed = (list_of_items, list_of_members)
