-- Whether a value holds another is told by meanings, and is no want of memory.
use Rattle.tera_meaning.proofs.ReadLemmas.{is_there, meant_members, key_meant, key_as_meant, text_meant, text_as_meant}
use Rattle.std.proofs.Common.{refl, sym, ap, ◌∙◌, rules}
use Rattle.std.specs.List.{list_any}
use Rattle.std.specs.Option.{option_map}
use Rattle.std.specs.Prelude.{◌≡◌, ℕ, ℤ, Bool, List, [], Option, Some, None, Result, Ok, Err, refl, ◌||◌, is_some}
use Rattle.tera_meaning.specs.Form.{Form, MarkedText}
use Rattle.tera_meaning.specs.Integer.{Integer}
use Rattle.tera_meaning.specs.KeyMeaning.{KeyForm, KeyMeaning, key_meaning, key_order}
use Rattle.tera_meaning.specs.Lookup.{key_in, paired, text_holds, holds, seen_by}
use Rattle.tera_meaning.specs.Meaning.{meaning, Meaning}
use Rattle.tera_meaning.specs.Order.{same}
use Rattle.tera_meaning.specs.Pairs.{value_at}
use Rattle.tera_meaning.specs.Tree.{Items, text, array, object, no_items, items_list, members_list, Members, item as an_item}
use Rattle.tera_report.specs.Refusal.{Refusal, not_a_container}
use Rattle.tera_meaning.proofs.MeaningLaws.{meant_items, found_pair}

any_as_meant : (test : Meaning → Bool) (xs : Items Integer MarkedText KeyForm) → list_any (λ y. test (meaning y)) (items_list xs)
    ≡ list_any test (items_list (meant_items xs))
any_as_meant test no_items = refl
any_as_meant test (an_item x xs) = ap (λ b. test (meaning x) || b) (any_as_meant test xs)

paired_meant : Members ℤ (List ℕ) KeyMeaning → Option KeyMeaning → Option Meaning
paired_meant ps None = None
paired_meant ps (Some k) = value_at key_order (members_list ps) k

paired_as_meant : (ps : Members Integer MarkedText KeyForm) (k : Option KeyForm) → option_map meaning (paired (members_list ps) k)
    ≡ paired_meant (meant_members ps) (option_map key_meaning k)
unfolding paired_meant
paired_as_meant ps None = refl
paired_as_meant ps (Some k) = found_pair ps (key_meaning k)

holds_meant : Meaning → Meaning → Result Bool Refusal
holds_meant (text s) x = Ok (text_holds s (text_meant x))
holds_meant (array xs) x = Ok (list_any (λ y. same y x) (items_list xs))
holds_meant (object ps) x = Ok (is_some (paired_meant ps (key_meant x)))
holds_meant y x = Err (not_a_container [])

holds_as_meant : (v x : Form) → seen_by (λ b. b) (holds v x) ≡ holds_meant (meaning v) (meaning x)
unfolding holds_meant
holds_as_meant (text t) x = ap (λ o. Ok (text_holds t.spelled o)) (text_as_meant x)
holds_as_meant (array xs) x = ap Ok (any_as_meant (λ y. same y (meaning x)) xs)
holds_as_meant (object ps) x =
    ap Ok (sym (is_there meaning (paired (members_list ps) (key_in x))) ∙ ap is_some (paired_as_meant ps (key_in x))
    ∙ ap (λ k. is_some (paired_meant (meant_members ps) k)) (key_as_meant x))
holds_as_meant v x = refl

pub holds_by_meaning : (v w x y : Form) → meaning v ≡ meaning w → meaning x ≡ meaning y → seen_by (λ b. b) (holds v x) ≡ seen_by (λ b. b) (holds w y)
holds_by_meaning v w x y same sought = search (rules, holds_as_meant)
