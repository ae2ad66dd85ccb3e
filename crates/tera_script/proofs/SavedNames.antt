-- What the reader of names finds in a text tells whether it is a name.
use Rattle.std.proofs.Common.{◌≡◌, ℕ, ◌==◌, Bool, true, false, List, [], ◌∷◌, length, Some, None, is_some, ap, sym, subst}
use Rattle.std.proofs.Common.{◌∙◌, append-nil, arith}
use Rattle.std.specs.Bool.{MatchBool}
use Rattle.std.specs.Option.{unwrap_or}
use Rattle.std.proofs.lemmas.Bool.{true≢false}
use Rattle.std.proofs.lemmas.Bool.Decides.{nat_tests}
use Rattle.tera_script.specs.Word.{IsName}
use Rattle.tera_script.specs.Readers.{name_at}
use Rattle.tera_script.proofs.Names.{name_found, name_only}

-- a name is found whole
whole_name : (bytes : List ℕ) → IsName bytes → name_at bytes ≡ Some (bytes, [])
whole_name bytes named = ap name_at (sym (append-nil bytes)) ∙ name_only bytes [] named tt

pub no_name : (bytes : List ℕ) → name_at bytes ≡ None → ¬ IsName bytes
no_name bytes none named = true≢false (ap is_some (sym (whole_name bytes named) ∙ none))

pub decides_name : (empty : Bool) (bytes name rest : List ℕ) → name_at bytes ≡ Some (name, rest) → empty ≡ (length rest == 0)
    → MatchBool empty (IsName bytes) (¬ IsName bytes)
decides_name true bytes name [] found is =
    let has = name_found bytes name [] found in
    subst IsName (sym (has.spelled ∙ append-nil name)) has.named
decides_name false bytes name [] found is = absurd (true≢false (sym is))
decides_name true bytes name (b ∷ rest) found is = absurd (grind (arith, nat_tests))
decides_name false bytes name (b ∷ rest) found is = λ named.
    let e : Some (bytes, []) ≡ Some (name, b ∷ rest) = sym (whole_name bytes named) ∙ found in
    let longer : 0 ≡ length (b ∷ rest) = ap (λ o. length (unwrap_or {T = List ℕ × List ℕ} o ([], [])).1) e in
    absurd (omega (arith, longer))
