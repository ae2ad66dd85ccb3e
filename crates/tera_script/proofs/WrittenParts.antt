-- What is put piece by piece is what is written, and how deep parts are.
use Rattle.std.proofs.Common.{◌≡◌, ◌≢◌, ◌<◌, ◌-◌, ℕ, suc, Bool, true, false, nat_le, List, [], ◌∷◌, ◌++◌, Some, IsUtf8, sym, ap}
use Rattle.std.proofs.Common.{◌∙◌, arith, append_assoc, ne_eqb}
use lib.Utf8.{scalars, encode, encodes}
use Rattle.std.specs.List.{slice_get}
use Rattle.std.specs.Str.{chars}
use Rattle.std.proofs.lemmas.Bool.{and_parts}
use Rattle.std.proofs.lemmas.List.{append_cancel_left}
use Rattle.std.proofs.lemmas.Str.{chars-encodes, encodes-chars, scalars-chars}
use Rattle.std.specs.Prelude.{codes, flat_map}
use Rattle.std.proofs.lemmas.Bool.Decides.{nat_tests}
use Rattle.tera_meaning.specs.Form.{Form}
use Rattle.tera_script.proofs.WrittenTexts.{spelled_themselves}
use Rattle.tera_meaning.specs.KeyMeaning.{KeyForm}
use Rattle.tera_meaning.specs.Tree.{items, members}
use Rattle.tera_script.specs.Text.{spelling}
use Rattle.tera_script.specs.Written.{is_numbered, tokens_of, inside, literal_of, items_literal, more_literal, key_literal}
use Rattle.tera_script.specs.Written.{pairs_literal, more_pairs_literal}

pub first_item : (ascii : Bool) (all others : List Form) (x : Form) → all ≡ x ∷ others
    → literal_of ascii x ++ more_literal ascii (items others) ≡ items_literal ascii (items all)
first_item ascii all others x is = ap (λ l. items_literal ascii (items l)) (sym is)

pub next_item : (ascii : Bool) (left others : List Form) (x : Form) → left ≡ x ∷ others
    → (codes ", " ++ literal_of ascii x) ++ more_literal ascii (items others) ≡ more_literal ascii (items left)
next_item ascii left others x is = ap (λ l. more_literal ascii (items l)) (sym is)

abbrev pub pair_literal : Bool → KeyForm × Form → List ℕ
pair_literal ascii p = key_literal ascii p.0 ++ (codes ": " ++ literal_of ascii p.1)

pub first_pair : (ascii : Bool) (all others : List (KeyForm × Form)) (p : KeyForm × Form) → all ≡ p ∷ others
    → pair_literal ascii p ++ more_pairs_literal ascii (members others) ≡ pairs_literal ascii (members all)
first_pair ascii all others p is =
    append_assoc (key_literal ascii p.0) (codes ": " ++ literal_of ascii p.1) (more_pairs_literal ascii (members others))
    ∙ ap (λ l. pairs_literal ascii (members l)) (sym is)

pub next_pair : (ascii : Bool) (left others : List (KeyForm × Form)) (p : KeyForm × Form) → left ≡ p ∷ others
    → (codes ", " ++ pair_literal ascii p) ++ more_pairs_literal ascii (members others) ≡ more_pairs_literal ascii (members left)
next_pair ascii left others p is =
    ap (λ l. codes ", " ++ l) (append_assoc (key_literal ascii p.0) (codes ": " ++ literal_of ascii p.1) (more_pairs_literal ascii (members others)))
    ∙ ap (λ l. more_pairs_literal ascii (members l)) (sym is)

-- ---- depth

pub one_less : (d levels : ℕ) → 0 < levels → nat_le d (levels - 1) ≡ nat_le (suc d) levels
one_less d levels some = grind (arith, nat_tests)

-- ---- texts

-- a text that begins with a character, by its characters
record Begins (c : ℕ) (t : List ℕ) (cs : List ℕ) : Type 0 where
  others : List ℕ
  whole : cs ≡ c ∷ others
  are : scalars others ≡ true
  spell : encodes others ≡ t

begins : (cs s t : List ℕ) (c : ℕ) → scalars cs ≡ true → encodes cs ≡ s → s ≡ encode c ++ t → Some c ≡ slice_get cs 0 → Begins c t cs
begins [] s t c ok e is first = cc
begins (d ∷ cs) s t c ok e is first =
    let same : c ≡ d = cc in
    record {
      others = cs;
      whole = ap (λ b. b ∷ cs) (sym same);
      are = (and_parts _ _ ok).1;
      spell = append_cancel_left (encode c) (encodes cs) t (ap (λ b. encode b ++ encodes cs) same ∙ e ∙ is);
    }

pub first_char : (s t : List ℕ) (c : ℕ) → IsUtf8 s → s ≡ encode c ++ t → Some c ≡ slice_get (chars s) 0 → IsUtf8 t × (chars s ≡ c ∷ chars t)
first_char s t c u is first =
    let b = begins (chars s) s t c (scalars-chars s u) (encodes-chars s u) is first in
    let utf8 : IsUtf8 t = (b.others, (b.are, b.spell)) in
    (utf8, b.whole ∙ ap (λ l. c ∷ l) (sym (chars-encodes b.others b.are) ∙ ap chars b.spell))

-- what stands between the quotes, character by character
pub first_inside : (ascii : Bool) (s t : List ℕ) (c : ℕ) → chars s ≡ c ∷ chars t
    → flat_map spelling (tokens_of ascii c) ++ inside ascii t ≡ inside ascii s
first_inside ascii s t c is = ap (λ cs. flat_map (λ d. flat_map spelling (tokens_of ascii d)) cs) (sym is)

-- a character that stands for itself
pub plain_char : (ascii : Bool) (c : ℕ) → c ≢ 34 → c ≢ 92 → c ≢ 10 → c ≢ 13 → c ≢ 9 → c ≢ 0 → is_numbered ascii c ≡ false
    → encode c ≡ flat_map spelling (tokens_of ascii c)
plain_char ascii c n34 n92 n10 n13 n9 n0 n = sym (rw (
  ne_eqb c 34 n34,
  ne_eqb c 92 n92,
  ne_eqb c 10 n10,
  ne_eqb c 13 n13,
  ne_eqb c 9 n9,
  ne_eqb c 0 n0,
  n,
) (spelled_themselves (encode c)))
