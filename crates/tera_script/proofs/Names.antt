-- Gaps, names and operands: what the readers give is spelled so, and what is spelled so is read.
use Rattle.std.proofs.Common.{◌≡◌, ℕ, true, List, [], ◌∷◌, ◌++◌, Option, Some, None, refl, ap, sym, ◌∙◌, arith, append_assoc}
use Rattle.std.specs.Borrow.{Bor}
use Rattle.std.specs.Option.{option_map}
use Rattle.std.specs.Prelude.{IfSome}
use Rattle.std.proofs.lemmas.Option.{cond_some}
use Rattle.std.proofs.lemmas.Bool.Decides.{nat_tests}
use Rattle.tera_script.specs.Word.{is_blank, IsGap, is_name_start, is_name_byte, IsName}
use Rattle.tera_script.specs.Line.{SpellsOperand}
use Rattle.tera_script.specs.Readers.{Stops, front, past, gap_at, name_at, operand_at, named_rest}
use Rattle.tera_script.specs.inner.Command.{Begins}
use Rattle.tera_script.proofs.Fronts.{front-past, front_all, past_stops, front_is, past_is}

-- a gap stands before the rest
pub record HasGap (bytes rest : List ℕ) : Type 0 where
  pub gap : List ℕ
  pub blanks : IsGap gap
  pub spelled : bytes ≡ gap ++ rest
  pub stops : Stops is_blank rest

pub gap_found : (bytes rest : List ℕ) → gap_at bytes ≡ Some rest → HasGap bytes rest
unfolding gap_at
gap_found [] rest e = cc
gap_found (b ∷ bytes) rest e =
    let h = cond_some (is_blank b) (past is_blank bytes) rest e in
    record {
      gap = b ∷ front is_blank bytes;
      blanks = (omega arith, rw (h.0) (front_all is_blank bytes));
      spelled = rw (← h.1) (ap (λ xs. b ∷ xs) (sym (front-past is_blank bytes)));
      stops = rw (← h.1) (past_stops is_blank bytes);
    }

pub gap_only : (gap rest : List ℕ) → IsGap gap → Stops is_blank rest → gap_at (gap ++ rest) ≡ Some rest
unfolding gap_at
gap_only [] rest g s = absurd (omega (arith, g.0))
gap_only (b ∷ gap) rest g s = grind (arith, past_is)

-- a name stands before the rest
pub record HasName (bytes name rest : List ℕ) : Type 0 where
  pub named : IsName name
  pub spelled : bytes ≡ name ++ rest
  pub stops : Stops is_name_byte rest

pub name_found : (bytes name rest : List ℕ) → name_at bytes ≡ Some (name, rest) → HasName bytes name rest
unfolding name_at
name_found [] name rest e = cc
name_found (b ∷ bytes) name rest e =
    let h : (is_name_start b ≡ true) × (b ∷ front is_name_byte bytes ≡ name) × (past is_name_byte bytes ≡ rest) = grind arith in
    record {
      named = rw (← h.1) (h.0, front_all is_name_byte bytes);
      spelled = rw (← h.1, ← h.2) (ap (λ xs. b ∷ xs) (sym (front-past is_name_byte bytes)));
      stops = rw (← h.2) (past_stops is_name_byte bytes);
    }

-- what begins a name can stand in one
pub start_goes_on : (b : ℕ) → is_name_start b ≡ true → is_name_byte b ≡ true
start_goes_on b h = grind (arith, nat_tests)

-- what a reader of names gives is a name
pub name_named : (bytes : List ℕ) (found : Option (Bor (List ℕ) × Bor (List ℕ))) → option_map named_rest found ≡ name_at bytes
    → IfSome found (λ pair. IsName pair.0.now)
name_named bytes None e = tt
name_named bytes (Some pair) e = (name_found bytes pair.0.now pair.1.now (sym e)).named

pub name_only : (name rest : List ℕ) → IsName name → Stops is_name_byte rest → name_at (name ++ rest) ≡ Some (name, rest)
unfolding name_at
name_only name rest n s = grind (arith, front_is, past_is)

pub operand_found : (bytes name rest : List ℕ) → operand_at bytes ≡ Some (name, rest)
    → Begins SpellsOperand bytes name rest × Stops is_name_byte rest
unfolding operand_at
operand_found bytes name rest e =
    let h : (word : List ℕ) × (gap_at bytes ≡ Some word) × (name_at word ≡ Some (name, rest)) = grind arith in
    let gap = gap_found bytes h.0 h.1 in
    let named = name_found h.0 name rest h.2 in
    let spelled = gap.spelled ∙ ap (λ xs. gap.gap ++ xs) named.spelled ∙ sym (append_assoc gap.gap name rest) in
    (record { part = gap.gap ++ name; spells = (gap.gap, gap.blanks, named.named, refl); spelled = spelled }, named.stops)

-- no byte that begins a name is blank
pub name_is_not_blank : (name rest : List ℕ) → IsName name → Stops is_blank (name ++ rest)
name_is_not_blank name rest n = grind (arith, nat_tests)

pub operand_only : (operand name rest : List ℕ) → SpellsOperand operand name → Stops is_name_byte rest → operand_at (operand ++ rest) ≡ Some (name, rest)
unfolding operand_at
operand_only operand name rest h s =
    let gap = h.0 in
    let at_gap : gap_at (operand ++ rest) ≡ Some (name ++ rest) = rw (h.3, append_assoc gap name rest)
    (gap_only gap (name ++ rest) h.1 (name_is_not_blank name rest h.2)) in
    rw at_gap (name_only name rest h.2 s)
