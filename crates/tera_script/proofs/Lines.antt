-- Whole lines.
use Rattle.std.proofs.Common.{◌≡◌, ◌⊎◌, ℕ, Bool, true, false, List, [], ◌∷◌, ◌++◌, None, refl, ap, sym, ◌∙◌, inl, inr, arith, append_assoc, append-nil, subst}
use Rattle.std.specs.Str.{IsUtf8}
use Rattle.std.proofs.lemmas.Bool.Decides.{nat_tests}
use Rattle.tera_meaning.specs.Request.{Command}
use Rattle.tera_script.specs.Word.{is_blank, AreBlanks, IsName}
use Rattle.tera_script.specs.Verb.{word_of}
use Rattle.tera_script.specs.Line.{Says, SaysLent, IsSkipped, IsBad, IsBare, SpellsCommand}
use Rattle.tera_script.specs.Readers.{Stops, front, past, is_end_or_comment}
use Rattle.tera_script.specs.inner.Command.{EndsIn, IsCommandAt, CommandNeedsNone}
use Rattle.tera_script.proofs.Bare.{all_past_blanks}
use Rattle.tera_script.proofs.Fronts.{front_all, past_is, front_cut}
use Rattle.tera_script.proofs.Names.{name_is_not_blank}
use Rattle.tera_script.proofs.Verbs.{word_is_name}
use Rattle.tera_script.proofs.Commands.{one_command_at}
use Rattle.tera_script.proofs.Series.{past_utf8}

call_begins : (line : List ℕ) (command : Command) (h : Says line command) → h.call ++ h.after ≡ word_of h.spelled.0 ++ (h.spelled.1 ++ h.after)
call_begins line command h = ap (λ c. c ++ h.after) h.spelled.3 ∙ append_assoc (word_of h.spelled.0) h.spelled.1 h.after

says_past : (line : List ℕ) (command : Command) (h : Says line command) → past is_blank line ≡ h.call ++ h.after
says_past line command h =
    let stops = subst (Stops is_blank) (sym (call_begins line command h))
    (name_is_not_blank (word_of h.spelled.0) (h.spelled.1 ++ h.after) (word_is_name h.spelled.0)) in
    ap (past is_blank) (h.whole ∙ append_assoc h.before h.call h.after) ∙ past_is is_blank h.before (h.call ++ h.after) h.padded.0 stops

says_command : (line : List ℕ) (command : Command) → Says line command → EndsIn SpellsCommand (past is_blank line) command
says_command line command h = record { part = h.call; after = h.after; spells = h.spelled; blanks = h.padded.1; spelled = says_past line command h }

pub one_command : (line : List ℕ) (a b : Command) → Says line a → Says line b → a ≡ b
one_command line a b h g = one_command_at (past is_blank line) a b (says_command line a h) (says_command line b g)

-- lines that are skipped
all_past : (xs : List ℕ) → AreBlanks xs → past is_blank xs ≡ []
all_past [] h = refl
all_past (b ∷ xs) h = grind (arith, all_past xs)

skipped_past : (line : List ℕ) → IsSkipped line → is_end_or_comment (past is_blank line) ≡ true
skipped_past line (inl h) = ap is_end_or_comment (all_past line h)
skipped_past line (inr h) = ap is_end_or_comment (ap (past is_blank) h.3 ∙ past_is is_blank h.0 (35 ∷ h.1) h.2 refl)

past_skipped : (line rest : List ℕ) → past is_blank line ≡ rest → is_end_or_comment rest ≡ true → IsSkipped line
past_skipped line [] e h = inl (subst AreBlanks (sym (front_cut is_blank line [] e ∙ append-nil (front is_blank line))) (front_all is_blank line))
past_skipped line (b ∷ rest) e h =
    let hash : b ≡ 35 = grind (arith, nat_tests, h) in
    inr (front is_blank line, rest, front_all is_blank line, front_cut is_blank line (35 ∷ rest) (e ∙ ap (λ c. c ∷ rest) hash))

name_is_no_comment : (name rest : List ℕ) → IsName name → is_end_or_comment (name ++ rest) ≡ false
name_is_no_comment name rest n = grind (arith, nat_tests)

pub skipped_says_nothing : (line : List ℕ) (command : Command) → IsSkipped line → ¬ Says line command
skipped_says_nothing line command s h =
    let yes = skipped_past line s in
    let no = ap is_end_or_comment (says_past line command h ∙ call_begins line command h) ∙ name_is_no_comment (word_of h.spelled.0) (h.spelled.1 ++ h.after)
    (word_is_name h.spelled.0) in
    cc

-- by the bytes past the blanks, and whether they are none or begin a comment
module _ {line bytes : List ℕ} {ends : Bool} (b : bytes ≡ past is_blank line) (e : ends ≡ is_end_or_comment bytes) where
  pub is_skipped : ends ≡ true → IsSkipped line
  is_skipped h = past_skipped line bytes (sym b) (sym e ∙ h)

  pub line_says : {command : Command} → IsUtf8 line → EndsIn SpellsCommand bytes command → Says line command
  line_says u h = record {
    utf8 = u;
    before = front is_blank line;
    call = h.part;
    after = h.after;
    padded = (front_all is_blank line, h.blanks);
    spelled = h.spells;
    whole = front_cut is_blank line bytes (sym b) ∙ ap (λ xs. front is_blank line ++ xs) h.spelled ∙ sym (append_assoc (front is_blank line) h.part h.after);
  }

  not_skipped : ends ≡ false → ¬ IsSkipped line
  not_skipped h s = let yes = skipped_past line s in cc

  -- a line that takes no memory to read has a command that takes none, where it has one
  pub free_line : ends ≡ false → IsUtf8 line → IsSkipped line ⊎ ((¬ IsUtf8 line) ⊎ (IsBare line ⊎ SaysLent line)) → CommandNeedsNone bytes
  free_line h u (inl skipped) = absurd (not_skipped h skipped)
  free_line h u (inr (inl not_utf8)) = absurd (not_utf8 u)
  free_line h u (inr (inr (inl bare))) = inl (all_past_blanks _ line b bare)
  free_line h u (inr (inr (inr (free, (command, says, nothing))))) =
      inr (all_past_blanks _ line b free, (command, subst (λ xs. EndsIn SpellsCommand xs command) (sym b) (says_command line command says), nothing))

  pub bad_utf8 : ends ≡ false → ¬ IsUtf8 line → IsBad line
  bad_utf8 h u = (not_skipped h, λ command s. u s.utf8)

  pub bad_command : ends ≡ false → IsCommandAt bytes None → IsBad line
  bad_command h nothing = (
    not_skipped h,
    λ command s. (subst (λ xs. IsCommandAt xs None) b nothing) (past_utf8 line s.utf8) command
        (says_command line command s),
  )
