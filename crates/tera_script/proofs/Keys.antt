-- What the readers of keys answer.
use Rattle.std.proofs.Common.{◌≡◌, ◌≢◌, ℕ, true, false, List, [], ◌∷◌, ◌++◌, drop, Option, Some, None, refl, ap, sym, ◌∙◌, arith, subst}
use Rattle.std.specs.Prelude.{codes, IsSome}
use Rattle.std.specs.List.{list_all}
use Rattle.std.specs.Option.{option_map}
use Rattle.std.proofs.lemmas.Slice.Eq.{bytes_eq-Decides}
use Rattle.tera_meaning.specs.Integer.{Integer}
use Rattle.tera_meaning.specs.KeyMeaning.{KeyForm, truth_key, number_key, text_key, owned, borrowed}
use Rattle.std.specs.Str.{IsUtf8}
use Rattle.tera_meaning.specs.Form.{Form}
use Rattle.tera_meaning.specs.Tree.{text}
use Rattle.tera_script.specs.Text.{SpellsText, BeginsWithText}
use Rattle.tera_script.specs.Literal.{SpellsKey}
use Rattle.tera_script.specs.Number.{SpellsNumber}
use Rattle.tera_script.specs.Readers.{Stops, front, past, digits_at, unsigned_in, number_in, is_word_byte, key_in, plain_key_at, IsKeyAt, IsQuotedAt}
use Rattle.tera_script.proofs.Fronts.{front-past, front_is, past_stops}
use Rattle.tera_script.proofs.Integers.{number_found, number_only}
use Rattle.tera_script.proofs.Words.{number_is_word, other_word}
use Rattle.tera_script.proofs.Literals.{quoted_some, key_literal}
use Rattle.tera_script.proofs.Openings.{stands, quoted_utf8, stops_end}
use Rattle.tera_script.proofs.Shapes.{quoted_bytes}
use Rattle.tera_values.specs.Key.{key_value}
use Rattle.tera_values.specs.View.{marked}

-- ---- keys without quotes

key_found : (word : List ℕ) (k : KeyForm) → key_in word ≡ Some k → SpellsKey word k
unfolding key_in
key_found word k e = grind (arith, bytes_eq-Decides, number_found)

number_key_only : (word : List ℕ) (n : Integer) → SpellsNumber word n → key_in word ≡ Some (number_key n)
unfolding key_in number_in unsigned_in digits_at
number_key_only word n h =
    let e = number_only word n h in
    rw (other_word word (codes "true") n e refl, other_word word (codes "false") n e refl) (ap (option_map number_key) e)

-- where no word that is a key and no quote stands at the front, no key does
module _ (xs rest : List ℕ) (n : key_in (front is_word_byte xs) ≡ None) (stops : Stops is_word_byte rest) where
  no_word : (literal : List ℕ) (k : KeyForm) → list_all is_word_byte literal ≡ true → key_in literal ≡ Some k → xs ≡ literal ++ rest → ⊥
  no_word literal k w names e = let found = ap (λ ys. key_in (front is_word_byte ys)) e ∙ ap key_in (front_is is_word_byte literal rest w stops) in cc

  no_key_at : (literal : List ℕ) (k : KeyForm) → ((ys : List ℕ) → xs ≢ (34 ∷ []) ++ ys) → SpellsKey literal k → xs ≡ literal ++ rest → ⊥
  unfolding key_in
  no_key_at literal (truth_key true) quote h e = no_word (codes "true") (truth_key true) refl refl (e ∙ ap (λ l. l ++ rest) h)
  no_key_at literal (truth_key false) quote h e = no_word (codes "false") (truth_key false) refl refl (e ∙ ap (λ l. l ++ rest) h)
  no_key_at literal (number_key i) quote h e = no_word literal (number_key i) (number_is_word literal i h) (number_key_only literal i h) e
  no_key_at literal (text_key (owned t)) quote h e = quote ((h.0 ++ 34 ∷ []) ++ rest) (e ∙ ap (λ l. l ++ rest) h.2)
  no_key_at literal (text_key (borrowed t)) quote h e = absurd h

pub plain_key_found : (xs : List ℕ) (answer : Option (KeyForm × List ℕ)) → ((ys : List ℕ) → xs ≢ (34 ∷ []) ++ ys) → answer ≡ plain_key_at xs → IsKeyAt xs answer
unfolding plain_key_at
plain_key_found xs answer quote e = rw e (go (key_in (front is_word_byte xs)) refl)
  where
    go : (k : Option KeyForm) → key_in (front is_word_byte xs) ≡ k → IsKeyAt xs (option_map (λ k. (k, past is_word_byte xs)) k)
    go (Some k) h = (
      record { literal = front is_word_byte xs; spells = key_found (front is_word_byte xs) k h; spelled = sym (front-past is_word_byte xs) },
      stops_end (key_value k) (past is_word_byte xs) (past_stops is_word_byte xs),
    )
    go None h = λ utf8 k rest b stops. no_key_at xs rest h stops b.literal k quote b.spells b.spelled

-- a key in quotes is none without quotes
pub quote_is_no_word : {xs ys : List ℕ} → xs ≡ (34 ∷ []) ++ ys → IsSome (plain_key_at xs) → ⊥
unfolding plain_key_at key_in number_in
quote_is_no_word {xs} {ys} e h = let no : IsSome (plain_key_at (34 ∷ ys)) = subst (λ zs. IsSome (plain_key_at zs)) e h in cc

-- ---- keys in quotes

abbrev spelled_in : Form → List ℕ
spelled_in (text t) = t.spelled
spelled_in v = []

-- no key is opened by a quote but a text
pub no_text_key : (xs behind : List ℕ) → xs ≡ 34 ∷ behind → IsQuotedAt false behind None → IsKeyAt xs None
no_text_key xs behind e h = λ u k rest b stops.
    let s : IsQuotedAt false behind (Some (key_value k, rest)) =
    rw e at (stands xs (key_value k) rest (key_literal xs k rest b) (stops_end (key_value k) rest stops)) in
    h s.1 s.0 rest (quoted_utf8 false s.0 rest (subst IsUtf8 (e ∙ ap (λ ys. 34 ∷ ys) s.4) u)) s.2 s.4

pub text_key_found : (xs behind t rest : List ℕ) (used : ℕ) → xs ≡ 34 ∷ behind → BeginsWithText behind t used → rest ≡ drop used behind
    → IsKeyAt xs (Some (text_key (owned t), rest))
text_key_found xs behind t rest used e h r =
    let q = quoted_some false behind t rest used (marked t false) h refl r in
    let same : q.1 ≡ t = sym (ap spelled_in q.3) in (
      record {
        literal = 34 ∷ (q.0 ++ 34 ∷ []);
        spells = (q.0, subst (SpellsText q.0) same q.2, refl);
        spelled = e ∙ ap (λ ys. 34 ∷ ys) q.4 ∙ sym (quoted_bytes false q.0 rest);
      },
      tt,
    )
