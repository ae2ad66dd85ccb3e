-- Bytes of which each is of a kind, as those where no quote, bracket or brace stands.
use Rattle.std.proofs.Common.{◌≡◌, ◌⊎◌, ℕ, true, false, List, [], ◌∷◌, ◌++◌, Some, None, refl, ap, sym, ◌∙◌, inl, inr, subst}
use Rattle.std.specs.List.{AllByRecursion}
use Rattle.std.specs.Prelude.{IsSome}
use Rattle.tera_meaning.specs.Form.{Form}
use Rattle.tera_meaning.specs.Read.{members_in}
use Rattle.tera_meaning.specs.Tree.{object}
use Rattle.tera_script.specs.Line.{IsBare}
use Rattle.tera_script.specs.Literal.{SpellsTree, tree_value}
use Rattle.tera_script.specs.Readers.{front, past, gap_at, operand_at, plain_at, value_in, is_word_byte, IsLiteralAt}
use Rattle.tera_script.specs.Word.{is_blank}
use Rattle.tera_script.specs.inner.Command.{IsValueAt}
use Rattle.tera_script.proofs.Fronts.{all_front, all_behind, front-past}
use Rattle.tera_script.proofs.Literals.{plain_found}
use Rattle.tera_script.proofs.Names.{gap_found, operand_found}
use Rattle.tera_script.proofs.Openings.{text_front, bytes_front}
use Rattle.tera_script.proofs.Words.{no_value_nowhere}

-- what holds of each byte holds of those past blanks, a gap and an operand
module _ (P : ℕ → Type 0) where
  pub all_past_blanks : (line : List ℕ) {bytes : List ℕ} → bytes ≡ past is_blank line → AllByRecursion P line → AllByRecursion P bytes
  all_past_blanks line e h =
      subst (AllByRecursion P) (sym e)
      (all_behind P (front is_blank line) (past is_blank line) (subst (AllByRecursion P) (sym (front-past is_blank line)) h))

  pub all_past_gap : (bytes : List ℕ) {rest : List ℕ} → Some rest ≡ gap_at bytes → AllByRecursion P bytes → AllByRecursion P rest
  all_past_gap bytes {rest} e h = let gap = gap_found bytes rest (sym e) in all_behind P gap.gap rest (subst (AllByRecursion P) gap.spelled h)

  pub all_past_operand : (bytes : List ℕ) {name rest : List ℕ} → Some (name, rest) ≡ operand_at bytes → AllByRecursion P bytes
      → AllByRecursion P rest
  all_past_operand bytes {name} {rest} e h =
      let operand = (operand_found bytes name rest (sym e)).0 in
      all_behind P operand.part rest (subst (AllByRecursion P) operand.spelled h)

-- ---- literals

-- bytes that open a text, a byte string, an array or a map
opens : {xs : List ℕ} (ys : List ℕ) → xs ≡ ys → value_in (front is_word_byte ys) ≡ None → ¬ IsBare ys → IsBare xs ⊎ IsSome (plain_at xs) → ⊥
unfolding plain_at
opens ys e nothing not_bare (inl bare) = not_bare (subst IsBare e bare)
opens {xs} ys e nothing not_bare (inr plain) = let no = rw (e, nothing) at plain in cc

module _ {xs ys : List ℕ} where
  pub quote_opens : xs ≡ (34 ∷ []) ++ ys → IsBare xs ⊎ IsSome (plain_at xs) → ⊥
  quote_opens e = opens (34 ∷ ys) e (text_front false ys) (λ bare. bare.0.0 refl)

  pub safe_opens : xs ≡ (115 ∷ 34 ∷ []) ++ ys → IsBare xs ⊎ IsSome (plain_at xs) → ⊥
  safe_opens e = opens (115 ∷ 34 ∷ ys) e (text_front true ys) (λ bare. bare.1.0.0 refl)

  pub hex_opens : xs ≡ (120 ∷ 34 ∷ []) ++ ys → IsBare xs ⊎ IsSome (plain_at xs) → ⊥
  hex_opens e = opens (120 ∷ 34 ∷ ys) e (bytes_front ys) (λ bare. bare.1.0.0 refl)

  pub bracket_opens : xs ≡ (91 ∷ []) ++ ys → IsBare xs ⊎ IsSome (plain_at xs) → ⊥
  bracket_opens e = opens (91 ∷ ys) e no_value_nowhere (λ bare. bare.0.1 refl)

  pub brace_opens : xs ≡ (123 ∷ []) ++ ys → IsBare xs ⊎ IsSome (plain_at xs) → ⊥
  brace_opens e = opens (123 ∷ ys) e no_value_nowhere (λ bare. bare.0.2 refl)

-- where one pass read a number
pub number_stands : (levels : ℕ) (xs : List ℕ) (found : Form × List ℕ) → Some found ≡ plain_at xs → IsLiteralAt levels xs (Some found)
number_stands levels xs found e =
    let plain : IsBare xs ⊎ IsSome (plain_at xs) = inr (subst IsSome e refl) in
    plain_found levels xs (Some found) (λ ys o. quote_opens o plain) (λ ys o. safe_opens o plain) (λ ys o. hex_opens o plain)
    (λ ys o. bracket_opens o plain) (λ ys o. brace_opens o plain) e

-- no map stands there
tree_is_no_map : (literal : List ℕ) (tree : Form) → SpellsTree literal tree → IsBare literal → members_in (tree_value tree) ≡ None
tree_is_no_map literal (object ps) h bare = absurd ((subst IsBare h.2 bare).0.2 refl)
tree_is_no_map literal tree h bare = refl

pub value_is_no_map : {bytes rest : List ℕ} {value : Form} → IsValueAt bytes (Some (value, rest)) → IsBare bytes → members_in value ≡ None
value_is_no_map {bytes} {rest} found bare =
    let s = found.0.spells in
    let part = all_front _ found.0.part rest (subst IsBare found.0.spelled bare) in
    ap members_in s.6 ∙ tree_is_no_map s.1 s.2 s.4 (all_behind _ s.0 s.1 (subst IsBare s.7 part))
