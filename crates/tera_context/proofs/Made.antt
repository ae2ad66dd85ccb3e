-- What a context holds is well made where each value is.
use Rattle.std.specs.Prelude.{◌≡◌, ℕ, Bool, true, false, cond, IfSome, List, [], ◌∷◌, Option, Some, String, refl}
use Rattle.std.proofs.Common.{sym, subst}
use Rattle.std.proofs.lemmas.Str.{IsUtf8-string_bytes}
use Rattle.std.specs.Cmp.{Equal-is}
use Rattle.std.specs.Cmp.Lexicographic.{slice_cmp, nat_list_cmp_total}
use Rattle.std.specs.FinMap.{find, get-from_entries}
use Rattle.std.specs.List.{AllByRecursion}
use Rattle.std.specs.Ordering.{nat_cmp, eq_by_cmp}
use Rattle.std.specs.Str.{IsUtf8}
use Rattle.std.specs.String.{string_bytes}
use Rattle.tera_meaning.specs.Form.{Form}
use Rattle.tera_meaning.proofs.StateLaws.{name_exact}
use Rattle.tera_meaning.specs.WellMade.{IsWellMade, IsWellMadeState}
use Rattle.tera_context.specs.Context.{named, state_of}

-- each value is well made
abbrev pub HoldsWellMade : {A : Type 0} → List (String A × Form) → Type 0
HoldsWellMade pairs = AllByRecursion (λ p. IsWellMade p.1) pairs

abbrev IsHeldWell : List ℕ → Option Form → Type 0
IsHeldWell name o = IfSome o (λ value. IsUtf8 name × IsWellMade value)

chosen_well : {A : Type 0} (name : List ℕ) (held : String A) (value : Form) (later : Option Form) (b : Bool)
    → eq_by_cmp (slice_cmp nat_cmp) name (string_bytes held) ≡ b → IsWellMade value → IsHeldWell name later
    → IsHeldWell name (cond b (Some value) later)
chosen_well name held value later true e well rest =
    let is = name_exact name (string_bytes held) ((Equal-is (slice_cmp nat_cmp name (string_bytes held))).0 e) in
    (subst IsUtf8 (sym is) (IsUtf8-string_bytes held), well)
chosen_well name held value later false e well rest = rest

found_well : {A : Type 0} (name : List ℕ) (pairs : List (String A × Form)) → HoldsWellMade pairs
    → IsHeldWell name (find (slice_cmp nat_cmp) name (named pairs))
found_well name [] h = tt
found_well name (p ∷ pairs) h =
    chosen_well name p.0 p.1 (find (slice_cmp nat_cmp) name (named pairs)) (eq_by_cmp (slice_cmp nat_cmp) name (string_bytes p.0)) refl h.0
    (found_well name pairs h.1)

pub held_well : {A : Type 0} (pairs : List (String A × Form)) → HoldsWellMade pairs → IsWellMadeState (state_of pairs)
held_well pairs h name =
    subst (IsHeldWell name) (sym (get-from_entries nat_list_cmp_total (named pairs) name)) (found_well name pairs h)
