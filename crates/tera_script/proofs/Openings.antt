-- What the first bytes of a literal say of it: five ways to open one.
use Rattle.std.proofs.lemmas.Bool.Decides.{nat_tests}
use Rattle.std.proofs.Common.{◌<◌, ◌≡◌, ℕ, Bool, true, false, cond, eqb, List, [], ◌∷◌, ◌++◌, Some, None, refl, ap, sym, ◌∙◌, arith, append_assoc, subst}
use Rattle.std.specs.Str.{IsUtf8}
use Rattle.tera_meaning.specs.Integer.{Integer}
use Rattle.tera_meaning.specs.Form.{Form, MarkedText}
use Rattle.tera_meaning.specs.KeyMeaning.{KeyForm}
use Rattle.tera_meaning.specs.Tree.{Items, Members, text, bytes, array, object}
use Rattle.tera_script.specs.Literal.{mark_of, SpellsTree}
use Rattle.tera_script.specs.Readers.{Stops, front, past, number_in, unsigned_in, digits_at, is_word_byte, value_in, hex_at, BeginsWithLiteral, Ends, ItemsAt}
use Rattle.tera_script.specs.Readers.{PairsAt, IsQuotedAt}
use Rattle.tera_script.proofs.Fronts.{front_cut, past_stops}
use Rattle.tera_script.proofs.HexBytes.{hex_only, hex_found}
use Rattle.tera_script.proofs.Shapes.{quoted_bytes, items_at, pairs_at, items_spelled, pairs_spelled}
use Rattle.tera_script.proofs.Utf8.{utf8_past_word, after_byte, around_byte}
use Rattle.tera_script.proofs.Words.{IsWord, value_found, word_front, word_behind, no_value_nowhere, flat_word}

pub data Opening : Type 0 where
  plain : Opening
  quoted : Bool → List ℕ → Opening
  hex : List ℕ → Opening
  bracket : List ℕ → Opening
  brace : List ℕ → Opening

-- a quote (34) behind a letter
abbrev behind : (List ℕ → Opening) → List ℕ → Opening
behind f [] = plain
behind f (c ∷ xs) = cond (eqb c 34) (f xs) plain

abbrev pub opened : List ℕ → Opening
opened [] = plain
opened (b ∷ xs) =
    cond (eqb b 34) (quoted false xs) (cond (eqb b 91) (bracket xs) (cond (eqb b 123) (brace xs)
    (cond (eqb b 115) (behind (quoted true) xs) (cond (eqb b 120) (behind hex xs) plain))))

abbrev pub IsOpening : List ℕ → Opening → Type 0
IsOpening xs plain = Unit {0}
IsOpening xs (quoted safe ys) = xs ≡ mark_of safe ++ (34 ∷ ys)
IsOpening xs (hex ys) = xs ≡ 120 ∷ 34 ∷ ys
IsOpening xs (bracket ys) = xs ≡ 91 ∷ ys
IsOpening xs (brace ys) = xs ≡ 123 ∷ ys

pub opening_is : (xs : List ℕ) → IsOpening xs (opened xs)
opening_is xs = grind (arith, nat_tests)

-- a literal stands there that is opened so
abbrev pub Stands : Opening → List ℕ → Form → List ℕ → Type 0
Stands plain xs v rest = (value_in (front is_word_byte xs) ≡ Some v) × (past is_word_byte xs ≡ rest)
Stands (quoted safe ys) xs v rest = IsQuotedAt safe ys (Some (v, rest))
Stands (hex ys) xs v rest = (bs : List ℕ) × (v ≡ bytes bs) × (hex_at ys ≡ Some (bs, rest))
Stands (bracket ys) xs v rest = (all : Items Integer MarkedText KeyForm) × (v ≡ array all) × ItemsAt ys all rest
Stands (brace ys) xs v rest = (all : Members Integer MarkedText KeyForm) × (v ≡ object all) × PairsAt ys all rest

-- no word is opened by a quote, a bracket or a brace
pub text_front : (safe : Bool) (xs : List ℕ) → value_in (front is_word_byte (mark_of safe ++ (34 ∷ xs))) ≡ None
unfolding value_in number_in unsigned_in digits_at
text_front true xs = refl
text_front false xs = refl

pub bytes_front : (xs : List ℕ) → value_in (front is_word_byte (120 ∷ 34 ∷ xs)) ≡ None
unfolding value_in number_in unsigned_in digits_at
bytes_front xs = refl

word_stands : (xs literal rest : List ℕ) (v : Form) → IsWord literal v → xs ≡ literal ++ rest → Stops is_word_byte rest → Stands (opened xs) xs v rest
word_stands xs literal rest v w e s = by_opening (opened xs) (opening_is xs)
  where
    not_so : (ys : List ℕ) → xs ≡ ys → value_in (front is_word_byte ys) ≡ None → ⊥
    not_so ys same nothing = let one = word_front xs literal rest v w e s in let other = ap (λ zs. value_in (front is_word_byte zs)) same ∙ nothing in cc

    by_opening : (o : Opening) → IsOpening xs o → Stands o xs v rest
    by_opening plain i = (word_front xs literal rest v w e s, word_behind xs literal rest v w e s)
    by_opening (quoted safe ys) i = absurd (not_so (mark_of safe ++ (34 ∷ ys)) i (text_front safe ys))
    by_opening (hex ys) i = absurd (not_so (120 ∷ 34 ∷ ys) i (bytes_front ys))
    by_opening (bracket ys) i = absurd (not_so (91 ∷ ys) i no_value_nowhere)
    by_opening (brace ys) i = absurd (not_so (123 ∷ ys) i no_value_nowhere)

text_stands : (safe : Bool) (ys : List ℕ) (v : Form) (rest : List ℕ) → IsQuotedAt safe ys (Some (v, rest)) → Stands (opened (mark_of safe ++ (34 ∷ ys)))
    (mark_of safe ++ (34 ∷ ys)) v rest
text_stands true ys v rest h = h
text_stands false ys v rest h = h

stands_so : (literal xs : List ℕ) (v : Form) (rest : List ℕ) → SpellsTree literal v → xs ≡ literal ++ rest → Ends v rest → Stands (opened xs) xs v rest
stands_so literal xs (text t) rest h e s =
    rw (e, h.2, quoted_bytes t.safe h.0 rest) (text_stands t.safe (h.0 ++ 34 ∷ rest) (text t) rest (h.0, t.spelled, h.1, refl, refl))
stands_so literal xs (bytes bs) rest h e s = rw (e, h.2, append_assoc h.0 (34 ∷ []) rest) (bs, refl, hex_only bs h.0 rest h.1)
stands_so literal xs (array all) rest h e s = rw (e, h.2, append_assoc h.0 (93 ∷ []) rest) (all, refl, items_at all h.0 rest h.1)
stands_so literal xs (object all) rest h e s = rw (e, h.2, append_assoc h.0 (125 ∷ []) rest) (all, refl, pairs_at all h.0 rest h.1)
stands_so literal xs v rest h e s = word_stands xs literal rest v (flat_word literal v tt h) e s

pub stands : (xs : List ℕ) (v : Form) (rest : List ℕ) → BeginsWithLiteral xs v rest → Ends v rest → Stands (opened xs) xs v rest
stands xs v rest b s = stands_so b.literal xs v rest b.spells b.spelled s

pub stops_end : (value : Form) (rest : List ℕ) → Stops is_word_byte rest → Ends value rest
stops_end (text t) rest s = tt
stops_end (bytes bs) rest s = tt
stops_end (array all) rest s = tt
stops_end (object ps) rest s = tt
stops_end v rest s = s

-- and back
pub literal_of : (o : Opening) (xs : List ℕ) (v : Form) (rest : List ℕ) → IsOpening xs o → Stands o xs v rest → BeginsWithLiteral xs v rest × Ends v rest
literal_of plain xs v rest i s = (
  record { literal = front is_word_byte xs; spells = value_found (front is_word_byte xs) v s.0; spelled = front_cut is_word_byte xs rest s.1 },
  stops_end v rest (subst (Stops is_word_byte) s.1 (past_stops is_word_byte xs)),
)
literal_of (quoted safe ys) xs v rest i s =
    let spelled = i ∙ ap (λ zs. mark_of safe ++ (34 ∷ zs)) s.4 ∙ sym (quoted_bytes safe s.0 rest) in
    rw (s.3) (record { literal = mark_of safe ++ (34 ∷ s.0) ++ (34 ∷ []); spells = (s.0, s.2, refl); spelled = spelled }, tt)
literal_of (hex ys) xs v rest i s =
    let has = hex_found ys s.0 rest s.2 in
    let spelled = i ∙ ap (λ zs. 120 ∷ 34 ∷ zs) (has.spelled ∙ sym (append_assoc has.digits (34 ∷ []) rest)) in
    rw (s.1) (record { literal = 120 ∷ 34 ∷ (has.digits ++ 34 ∷ []); spells = (has.digits, has.spells, refl); spelled = spelled }, tt)
literal_of (bracket ys) xs v rest i s =
    let p = items_spelled s.0 ys rest s.2 in
    let spelled = i ∙ ap (λ zs. 91 ∷ zs) (p.2 ∙ sym (append_assoc p.0 (93 ∷ []) rest)) in
    rw (s.1) (record { literal = 91 ∷ (p.0 ++ 93 ∷ []); spells = (p.0, p.1, refl); spelled = spelled }, tt)
literal_of (brace ys) xs v rest i s =
    let p = pairs_spelled s.0 ys rest s.2 in
    let spelled = i ∙ ap (λ zs. 123 ∷ zs) (p.2 ∙ sym (append_assoc p.0 (125 ∷ []) rest)) in
    rw (s.1) (record { literal = 123 ∷ (p.0 ++ 125 ∷ []); spells = (p.0, p.1, refl); spelled = spelled }, tt)

-- UTF-8 goes on in a text, and behind a literal, whose last byte is ASCII
pub quoted_utf8 : (safe : Bool) (inner rest : List ℕ) → IsUtf8 (mark_of safe ++ (34 ∷ (inner ++ 34 ∷ rest))) → IsUtf8 inner
quoted_utf8 true inner rest u =
    (around_byte inner rest 34 (omega arith) (after_byte (inner ++ 34 ∷ rest) 34 (omega arith) (after_byte (34 ∷ (inner ++ 34 ∷ rest)) 115 (omega arith) u))).0
quoted_utf8 false inner rest u = (around_byte inner rest 34 (omega arith) (after_byte (inner ++ 34 ∷ rest) 34 (omega arith) u)).0

behind_last : {literal : List ℕ} (front : List ℕ) (b : ℕ) (rest : List ℕ) → b < 128 → literal ≡ front ++ b ∷ [] → IsUtf8 (literal ++ rest) → IsUtf8 rest
behind_last front b rest ascii is u = (around_byte front rest b ascii (subst IsUtf8 (ap (λ l. l ++ rest) is ∙ append_assoc front (b ∷ []) rest) u)).1

spelled_utf8 : (literal rest : List ℕ) (v : Form) → SpellsTree literal v → IsUtf8 (literal ++ rest) → IsUtf8 rest
spelled_utf8 literal rest (text t) h = behind_last (mark_of t.safe ++ (34 ∷ h.0)) 34 rest (omega arith) h.2
spelled_utf8 literal rest (bytes bs) h = behind_last (120 ∷ 34 ∷ h.0) 34 rest (omega arith) h.2
spelled_utf8 literal rest (array all) h = behind_last (91 ∷ h.0) 93 rest (omega arith) h.2
spelled_utf8 literal rest (object all) h = behind_last (123 ∷ h.0) 125 rest (omega arith) h.2
spelled_utf8 literal rest v h = utf8_past_word literal rest (flat_word literal v tt h).bytes

pub literal_utf8 : (xs : List ℕ) (v : Form) (rest : List ℕ) → BeginsWithLiteral xs v rest → IsUtf8 xs → IsUtf8 rest
literal_utf8 xs v rest b u = spelled_utf8 b.literal rest v b.spells (subst IsUtf8 b.spelled u)
