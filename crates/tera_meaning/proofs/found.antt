-- What is found in states of one meaning is the same up to meaning, and is well made where the states are.
use Rattle.std.proofs.Common.{rules, ap}
use Rattle.std.specs.Prelude.{◌≡◌, Result, Ok, IfOk, IfSome}
use Rattle.tera_report.specs.Refusal.{Refusal, Operator}
use Rattle.tera_meaning.specs.Arithmetic.{calculated, negated}
use Rattle.tera_meaning.specs.Conversion.{IntegerType, read_as}
use Rattle.tera_meaning.specs.Form.{Form}
use Rattle.tera_meaning.specs.Alike.{MeanTheSame}
use Rattle.tera_meaning.specs.Lookup.{seen_by}
use Rattle.tera_meaning.specs.Meaning.{meaning}
use Rattle.tera_meaning.specs.Search
use Rattle.tera_meaning.specs.Search.{Search, found_at, one_found}
use Rattle.tera_meaning.specs.State.{State, form_at}
use Rattle.tera_meaning.specs.WellMade.{IsWellMade, IsWellMadeState}
use Rattle.tera_meaning.proofs.Owed.{found_shape, meaning_alike, form_at_well}
use Rattle.tera_meaning.proofs.ContainsLemmas.{holds_by_meaning}
use Rattle.tera_meaning.proofs.ReadLemmas.{fields_by_meaning}
pub mod Attr
pub mod Item
pub mod Path
pub mod Reverse
pub mod Slice

-- what is found as one value that means the same is found the same
one_alike : (made other : Result Form Refusal) → seen_by meaning made ≡ seen_by meaning other
    → found_shape (one_found made) ≡ found_shape (one_found other)
one_alike made other e = search rules

calculated_alike : (operator : Operator) (v w x y : Form) → meaning v ≡ meaning w → meaning x ≡ meaning y
    → seen_by meaning (calculated operator v x) ≡ seen_by meaning (calculated operator w y)
calculated_alike operator v w x y left right = search rules

negated_alike : (v w : Form) → meaning v ≡ meaning w → seen_by meaning (negated v) ≡ seen_by meaning (negated w)
negated_alike v w e = search rules

read_as_alike : (type : IntegerType) (v w : Form) → meaning v ≡ meaning w → seen_by meaning (read_as type v) ≡ seen_by meaning (read_as type w)
read_as_alike type v w e = search rules

pub found_alike : (call : Search) (f g : State) → MeanTheSame f g → found_shape (found_at f call) ≡ found_shape (found_at g call)
found_alike (Search.get name) f g h = ap Ok (h name)
found_alike (Search.path name p) f g h = ap Ok (Path.by_meaning p _ _ (meaning_alike f g h name))
found_alike (Search.attr name t) f g h = ap Ok (Attr.by_meaning t _ _ (meaning_alike f g h name))
found_alike (Search.item name i) f g h = one_alike _ _ (Item.by_meaning _ _ _ _ (meaning_alike f g h name) (meaning_alike f g h i))
found_alike (Search.slice name start end step) f g h = one_alike _ _ (Slice.by_meaning start end step _ _ (meaning_alike f g h name))
found_alike (Search.reverse name) f g h = one_alike _ _ (Reverse.by_meaning _ _ (meaning_alike f g h name))
found_alike (Search.calculate operator left right) f g h =
    one_alike _ _ (calculated_alike operator _ _ _ _ (meaning_alike f g h left) (meaning_alike f g h right))
found_alike (Search.negate name) f g h = one_alike _ _ (negated_alike _ _ (meaning_alike f g h name))
found_alike (Search.read type name) f g h = one_alike _ _ (read_as_alike type _ _ (meaning_alike f g h name))

some_well : (made : Result Form Refusal) → IfOk made IsWellMade → IfOk (one_found made) (λ o. IfSome o IsWellMade)
some_well made h = search rules

calculated_well : (operator : Operator) (v w : Form) → IfOk (calculated operator v w) IsWellMade
calculated_well operator v w = search rules

negated_well : (v : Form) → IfOk (negated v) IsWellMade
negated_well v = search rules

read_well : (type : IntegerType) (v : Form) → IfOk (read_as type v) IsWellMade
read_well type v = search rules

pub found_well : (call : Search) (state : State) → IsWellMadeState state → IfOk (found_at state call) (λ o. IfSome o IsWellMade)
found_well (Search.path name p) state h = search (rules, form_at_well, Path.well_made)
found_well (Search.attr name t) state h = search (rules, form_at_well, Attr.well_made)
found_well (Search.item name i) state h = search (rules, (Item.well_made (form_at state name) (form_at state i) (form_at_well state h name)))
found_well (Search.slice name start end step) state h =
    search (rules, (Slice.well_made start end step (form_at state name) (form_at_well state h name)))
found_well (Search.reverse name) state h = search (rules, (Reverse.well_made (form_at state name) (form_at_well state h name)))
found_well (Search.calculate operator left right) state h = some_well _ (calculated_well operator (form_at state left) (form_at state right))
found_well (Search.negate name) state h = some_well _ (negated_well (form_at state name))
found_well (Search.read type name) state h = some_well _ (read_well type (form_at state name))
found_well call state h = search (rules, form_at_well)

pub ruleset by_meaning = (Attr.by_meaning, Path.by_meaning, Item.by_meaning, Slice.sliced_alike, Reverse.by_meaning, holds_by_meaning, fields_by_meaning)

pub ruleset well_made = (Attr.well_made, Path.well_made, Item.well_made, Slice.sliced_well, Reverse.well_made)
