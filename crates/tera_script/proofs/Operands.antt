-- Where gaps and names end what stands before them, and the name for what is found.
use Rattle.std.proofs.Common.{◌≡◌, ℕ, Bool, true, false, List, [], ◌∷◌, ◌++◌, Option, Some, None, refl, ap, sym, ◌∙◌, arith, append_assoc, subst}
use Rattle.std.specs.List.{list_all}
use Rattle.std.specs.Option.{option_and_then}
use Rattle.std.proofs.lemmas.Bool.Decides.{nat_tests}
use Rattle.tera_script.specs.Word.{is_blank, AreBlanks, IsGap, is_name_byte}
use Rattle.tera_script.specs.Line.{SpellsOperand, SpellsInto}
use Rattle.tera_script.specs.Readers.{Stops, gap_at, operand_at, one_in, arrow_at, into_in, is_word_byte}
use Rattle.tera_script.specs.inner.Command.{Before}
use Rattle.tera_script.proofs.Names.{gap_only, gap_found, operand_found, operand_only}

-- where no word goes on, no name does
pub stops_name : (rest : List ℕ) → Stops is_word_byte rest → Stops is_name_byte rest
stops_name rest s = grind (arith, nat_tests)

-- where a blank stands, no word goes on
pub blanks_end_word : (xs : List ℕ) → AreBlanks xs → Stops is_word_byte xs
blanks_end_word [] h = tt
blanks_end_word (b ∷ xs) h = grind (arith, nat_tests)

pub gap_ends_word : (gap rest : List ℕ) → IsGap gap → Stops is_word_byte (gap ++ rest)
gap_ends_word [] rest g = absurd (omega (arith, g.0))
gap_ends_word (b ∷ gap) rest g = grind (arith, nat_tests)

-- what begins with a gap ends a word, and a name
pub behind_gap : (part gap inner rest : List ℕ) → IsGap gap → part ≡ gap ++ inner → Stops is_word_byte (part ++ rest)
behind_gap part gap inner rest g e = rw (e, append_assoc gap inner rest) (gap_ends_word gap (inner ++ rest) g)

pub operand_ends_name : (operand name rest : List ℕ) → SpellsOperand operand name → Stops is_name_byte (operand ++ rest)
operand_ends_name operand name rest h = stops_name (operand ++ rest) (behind_gap operand h.0 name rest h.1 h.3)

-- one operand
abbrev HasOne : List ℕ → List ℕ → Type 0
HasOne bytes name = Before (λ operands. SpellsOperand operands name) bytes

one_found : (bytes name : List ℕ) → one_in bytes ≡ Some name → HasOne bytes name
unfolding one_in
one_found bytes name e =
    let h : (rest : List ℕ) × (operand_at bytes ≡ Some (name, rest)) × AreBlanks rest = grind arith in
    let operand = (operand_found bytes name h.0 h.1).0 in
    record { part = operand.part; after = h.0; spells = operand.spells; blanks = h.2; spelled = operand.spelled }

one_only : (bytes name : List ℕ) → HasOne bytes name → one_in bytes ≡ Some name
unfolding one_in
one_only bytes name h =
    rw (h.spelled, operand_only h.part name h.after h.spells (stops_name h.after (blanks_end_word h.after h.blanks)), h.blanks)

-- the name for what is found
abbrev pub HasInto : Bool → List ℕ → Option (List ℕ) → Type 0
HasInto keeps bytes into = Before (λ operands. SpellsInto keeps operands into) bytes

arrow_found : (xs rest : List ℕ) → arrow_at xs ≡ Some rest → xs ≡ 45 ∷ 62 ∷ rest
unfolding arrow_at
arrow_found [] rest e = cc
arrow_found (b ∷ []) rest e = cc
arrow_found (b ∷ c ∷ xs) rest e = grind (arith, nat_tests)

arrow_only : (rest : List ℕ) → arrow_at (45 ∷ 62 ∷ rest) ≡ Some rest
unfolding arrow_at
arrow_only rest = refl

named_into : (bytes name : List ℕ) → option_and_then one_in (option_and_then arrow_at (gap_at bytes)) ≡ Some name → HasInto true bytes (Some name)
named_into bytes name e =
    let h : (arrow behind : List ℕ) × (gap_at bytes ≡ Some arrow) × (arrow_at arrow ≡ Some behind) × (one_in behind ≡ Some name) = grind arith in
    let gap = gap_found bytes h.0 h.2 in
    let one = one_found h.1 name h.4 in
    record {
      part = gap.gap ++ (45 ∷ 62 ∷ one.part);
      after = one.after;
      spells = (gap.gap, one.part, gap.blanks, one.spells, refl);
      blanks = one.blanks;
      spelled = gap.spelled ∙ ap (λ xs. gap.gap ++ xs) (arrow_found h.0 h.1 h.3 ∙ ap (λ xs. 45 ∷ 62 ∷ xs) one.spelled)
          ∙ sym (append_assoc gap.gap (45 ∷ 62 ∷ one.part) one.after);
    }

no_into : (keeps : Bool) (bytes : List ℕ) → AreBlanks bytes → HasInto keeps bytes None
no_into keeps bytes h = record { part = []; after = bytes; spells = refl; blanks = h; spelled = refl }

pub into_found : (keeps : Bool) (bytes : List ℕ) (into : Option (List ℕ)) → into_in keeps bytes ≡ Some into → HasInto keeps bytes into
unfolding into_in
into_found keeps bytes None e = let h : AreBlanks bytes = grind arith in no_into keeps bytes h
into_found true bytes (Some name) e = named_into bytes name (grind arith)
into_found false bytes (Some name) e = absurd (grind arith)

not_all_blanks : (gap rest : List ℕ) → list_all is_blank (gap ++ 45 ∷ rest) ≡ false
not_all_blanks [] rest = refl
not_all_blanks (b ∷ gap) rest = grind (arith, not_all_blanks gap rest)

pub into_only : (keeps : Bool) (bytes : List ℕ) (into : Option (List ℕ)) → HasInto keeps bytes into → into_in keeps bytes ≡ Some into
unfolding into_in
into_only keeps bytes None h = rw (h.spelled, h.spells, h.blanks)
into_only false bytes (Some name) h = absurd h.spells
into_only true bytes (Some name) h =
    let gap = h.spells.0 in
    let behind = h.spells.1 ++ h.after in
    let spelled : bytes ≡ gap ++ 45 ∷ 62 ∷ behind = h.spelled ∙ ap (λ xs. xs ++ h.after) h.spells.4 ∙ append_assoc gap (45 ∷ 62 ∷ h.spells.1) h.after in
    let at_gap = gap_only gap (45 ∷ 62 ∷ behind) h.spells.2 refl in
    let at_name = one_only behind name (record { part = h.spells.1; after = h.after; spells = h.spells.3; blanks = h.blanks; spelled = refl }) in
    rw (spelled, not_all_blanks gap (62 ∷ behind), at_gap, arrow_only behind, at_name)

-- no word goes on where the name for what is found, or nothing, follows
pub into_ends_word : (keeps : Bool) (bytes : List ℕ) (into : Option (List ℕ)) → HasInto keeps bytes into → Stops is_word_byte bytes
into_ends_word keeps bytes None h = subst (Stops is_word_byte) (sym (h.spelled ∙ ap (λ xs. xs ++ h.after) h.spells)) (blanks_end_word h.after h.blanks)
into_ends_word false bytes (Some name) h = absurd h.spells
into_ends_word true bytes (Some name) h = rw (h.spelled) (behind_gap h.part h.spells.0 (45 ∷ 62 ∷ h.spells.1) h.after h.spells.2 h.spells.4)
