-- No bytes begin with two literals, and what the readers of literals answer.
use Rattle.std.proofs.Common.{◌≡◌, ◌≢◌, ◌≤◌, ◌+◌, ℕ, Bool, true, false, List, [], ◌∷◌, ◌++◌, length, drop, Option, Some, None, refl, ap, sym, ◌∙◌, arith}
use Rattle.std.proofs.Common.{append_assoc, append-nil, length-append, subst}
use Rattle.std.specs.List.{AllByRecursion}
use Rattle.std.specs.Str.{IsUtf8}
use Rattle.std.proofs.lemmas.List.{drop_at, append_cancel_left}
use Rattle.std.proofs.lemmas.Option.{same_Some, some_pair_parts}
use Rattle.tera_meaning.specs.Integer.{Integer}
use Rattle.tera_meaning.specs.Form.{Form, MarkedText}
use Rattle.tera_meaning.specs.KeyMeaning.{KeyForm, truth_key, number_key, text_key, owned}
use Rattle.tera_meaning.specs.Tree.{Items, Members, truth, number, text, bytes, array, object, no_items, item, no_members, member, items, items_list, members}
use Rattle.tera_meaning.specs.Tree.{members_list, depth}
use Rattle.tera_meaning.proofs.TreeLaws.{items_of_list, members_of_list}
use Rattle.tera_script.specs.Text.{BeginsWithText, BeginsWithNoText}
use Rattle.tera_script.specs.Word.{is_blank}
use Rattle.tera_script.specs.Literal.{mark_of, SpellsKey, SpellsTree, SpellsLiteral, tree_value}
use Rattle.tera_script.specs.Readers.{Stops, front, past, is_word_byte, value_in, plain_at, hex_at, bytes_read, BeginsWithLiteral, BeginsWithKey}
use Rattle.tera_script.specs.Readers.{BeginsWithPair, Ends, IsLiteralAt, IsQuotedAt, IsArrayAt, IsMapAt}
use Rattle.tera_script.proofs.Fronts.{bracket_or_comma}
use Rattle.tera_script.proofs.Openings.{Opening, plain, quoted, hex, bracket, brace, opened, IsOpening, opening_is, Stands, stands, stops_end, literal_of}
use Rattle.tera_script.proofs.Openings.{quoted_utf8}
use Rattle.tera_script.proofs.Series.{AreClosedBy, IsOnlyPart, only_all}
use Rattle.tera_script.proofs.Shapes.{key_tree}
use Rattle.tera_script.proofs.Texts.{one_reading, text_is_utf8}
use Rattle.tera_script.proofs.Utf8.{after_byte}
use Rattle.tera_script.proofs.Words.{value_is_flat, no_value_nowhere}
use Rattle.tera_values.specs.Key.{key_value}
use Rattle.tera_values.specs.View.{marked}

-- no literal begins with a comma, a closing bracket or a closing brace
module _ (c : ℕ) (opens : (ys : List ℕ) → opened (c ∷ ys) ≡ plain) (word : is_word_byte c ≡ false) where
  no_first : (xs : List ℕ) (v : Form) (rest ys : List ℕ) → BeginsWithLiteral xs v rest → xs ≡ c ∷ ys → Ends v rest → ⊥
  no_first xs v rest ys b e ends =
      let s : Stands plain (c ∷ ys) v rest = subst (λ o. Stands o (c ∷ ys) v rest) (opens ys)
      (stands (c ∷ ys) v rest (subst (λ zs. BeginsWithLiteral zs v rest) e b) ends) in
      let found : value_in [] ≡ Some v = rw word at s.0 in
      let nothing = no_value_nowhere in
      cc

pub no_literal : (xs : List ℕ) (v : Form) (rest ys : List ℕ) → BeginsWithLiteral xs v rest → xs ≡ 93 ∷ ys → Ends v rest → ⊥
no_literal = no_first 93 (λ ys. refl) refl

-- and so no key does
pub key_ends : (k : KeyForm) (after next : List ℕ) → past is_blank after ≡ 58 ∷ next → Ends (key_value k) after
key_ends k after next e = stops_end (key_value k) after (bracket_or_comma after 58 next e refl)

pub key_literal : (xs : List ℕ) (k : KeyForm) (rest : List ℕ) → BeginsWithKey xs k rest → BeginsWithLiteral xs (key_value k) rest
key_literal xs k rest b = record { literal = b.literal; spells = key_tree b.literal k b.spells; spelled = b.spelled }

pub no_pair : (xs : List ℕ) (pair : KeyForm × Form) (rest ys : List ℕ) → BeginsWithPair xs pair rest → xs ≡ 125 ∷ ys → ⊥
no_pair xs pair rest ys b e = no_first 125 (λ ys. refl) refl xs (key_value pair.0) b.0 ys (key_literal xs pair.0 b.0 b.2) e (key_ends pair.0 b.0 b.1 b.3)

abbrev pub EndsPair : KeyForm × Form → List ℕ → Type 0
EndsPair p rest = Ends p.1 rest

pub items_closed : AreClosedBy BeginsWithLiteral Ends 93
items_closed = record { stops = stops_end; opens = no_literal; word = refl; comma = λ e. omega arith }

pub pairs_closed : AreClosedBy BeginsWithPair EndsPair 125
pairs_closed = record { stops = λ e. stops_end e.1; opens = λ xs e rest ys b is ends. no_pair xs e rest ys b is; word = refl; comma = λ e. omega arith }

-- the literal, and the pair, is the only one where it stands; and so is each part of an array or a map
abbrev pub IsOnly : Form → Type 0
IsOnly = IsOnlyPart BeginsWithLiteral Ends

abbrev IsOnlyPair : KeyForm × Form → Type 0
IsOnlyPair = IsOnlyPart BeginsWithPair EndsPair

abbrev AreOnly : Form → Type 0
AreOnly (array all) = AllByRecursion IsOnly (items_list all)
AreOnly (object all) = AllByRecursion IsOnlyPair (members_list all)
AreOnly v = Unit {0}

only_by : (o : Opening) (xs : List ℕ) (v w : Form) (x y : List ℕ) → AreOnly v → Stands o xs v x → Stands o xs w y → (v ≡ w) × (x ≡ y)
only_by plain xs v w x y only s t = (same_Some v w (sym s.0 ∙ t.0), sym s.1 ∙ t.1)
only_by (quoted safe ys) xs v w x y only s t =
    let r = one_reading s.0 t.0 x y s.1 t.1 s.2 t.2 (sym s.4 ∙ t.4) in
    let same : s.0 ++ 34 ∷ x ≡ s.0 ++ 34 ∷ y = sym s.4 ∙ t.4 ∙ ap (λ inner. inner ++ 34 ∷ y) (sym r.0) in
    (s.3 ∙ ap (λ u. marked u safe) r.1 ∙ sym t.3, cc (append_cancel_left s.0 (34 ∷ x) (34 ∷ y) same))
only_by (hex ys) xs v w x y only s t = let p = some_pair_parts s.0 t.0 x y (sym s.2 ∙ t.2) in (s.1 ∙ ap bytes p.0 ∙ sym t.1, p.1)
only_by (bracket ys) xs v w x y only s t =
    let r = only_all BeginsWithLiteral Ends 93 items_closed (items_list s.0) (subst AreOnly s.1 only) ys x s.2 (items_list t.0) y t.2 in
    let all = sym (items_of_list s.0) ∙ ap items r.0 ∙ items_of_list t.0 in
    (s.1 ∙ ap array all ∙ sym t.1, r.1)
only_by (brace ys) xs v w x y only s t =
    let r = only_all BeginsWithPair EndsPair 125 pairs_closed (members_list s.0) (subst AreOnly s.1 only) ys x s.2 (members_list t.0) y t.2 in
    let all = sym (members_of_list s.0) ∙ ap members r.0 ∙ members_of_list t.0 in
    (s.1 ∙ ap object all ∙ sym t.1, r.1)

only_if : (v : Form) → AreOnly v → IsOnly v
only_if v parts xs x b s w y c t = only_by (opened xs) xs v w x y parts (stands xs v x b s) (stands xs w y c t)

-- a key that is spelled is that of its value
abbrev key_of : Form → KeyForm
key_of (truth b) = truth_key b
key_of (number n) = number_key n
key_of (text t) = text_key (owned t.spelled)
key_of v = truth_key true

key_again : (literal : List ℕ) (k : KeyForm) → SpellsKey literal k → key_of (key_value k) ≡ k
key_again literal k h = grind arith

pub only_key : (xs : List ℕ) (k : KeyForm) (x : List ℕ) (l : KeyForm) (y : List ℕ) → BeginsWithKey xs k x → BeginsWithKey xs l y
    → Ends (key_value k) x → Ends (key_value l) y → (k ≡ l) × (x ≡ y)
only_key xs k x l y b c s t =
    let same = only_if (key_value k) (grind arith) xs x (key_literal xs k x b) s (key_value l) y (key_literal xs l y c) t in
    (sym (key_again b.literal k b.spells) ∙ ap key_of same.0 ∙ key_again c.literal l c.spells, same.1)

pub only_pair : (k : KeyForm) (v : Form) → IsOnly v → IsOnlyPair (k, v)
only_pair k v only xs x b s p y c ends =
    let keys = only_key xs k b.0 p.0 c.0 b.2 c.2 (key_ends k b.0 b.1 b.3) (key_ends p.0 c.0 c.1 c.3) in
    let next : b.1 ≡ c.1 = cc (keys.1) in
    let values = only (past is_blank b.1) x b.4 s p.1 y (subst (λ ys. BeginsWithLiteral (past is_blank ys) p.1 y) (sym next) c.4) ends in
    ((λ i. (keys.0 i, values.0 i)), values.1)

mutual
  parts_only : (v : Form) → AreOnly v
  parts_only (array all) = items_only all
  parts_only (object all) = pairs_only all
  parts_only _ = tt

  items_only : (all : Items Integer MarkedText KeyForm) → AllByRecursion IsOnly (items_list all)
  items_only no_items = tt
  items_only (item v all) = (only_if v (parts_only v), items_only all)

  pairs_only : (all : Members Integer MarkedText KeyForm) → AllByRecursion IsOnlyPair (members_list all)
  pairs_only no_members = tt
  pairs_only (member k v all) = (only_pair k v (only_if v (parts_only v)), pairs_only all)

pub only_at : (v : Form) → IsOnly v
only_at v = only_if v (parts_only v)

-- no literal spells two values
whole : (literal : List ℕ) (tree : Form) → SpellsTree literal tree → BeginsWithLiteral literal tree []
whole literal tree s = record { literal = literal; spells = s; spelled = sym (append-nil literal) }

pub one_value : (literal : List ℕ) (v w : Form) → SpellsLiteral literal v → SpellsLiteral literal w → v ≡ w
one_value literal v w p q =
    let trees = only_at p.0 literal [] (whole literal p.0 p.1) (stops_end p.0 [] tt) q.0 [] (whole literal q.0 q.1) (stops_end q.0 [] tt) in
    p.2 ∙ ap tree_value trees.0 ∙ sym q.2

pub other_byte : (b c : ℕ) (xs ys : List ℕ) → b ≢ c → b ∷ xs ≡ c ∷ ys → ⊥
other_byte b c xs ys n e = n (cc)

-- what is answered of a literal that is opened so
abbrev pub IsOpenedAt : Opening → ℕ → List ℕ → Option (Form × List ℕ) → Type 0
IsOpenedAt plain levels xs answer = answer ≡ plain_at xs
IsOpenedAt (quoted safe ys) levels xs answer = IsQuotedAt safe ys answer
IsOpenedAt (hex ys) levels xs answer = answer ≡ bytes_read (hex_at ys)
IsOpenedAt (bracket ys) levels xs answer = IsArrayAt levels ys answer
IsOpenedAt (brace ys) levels xs answer = IsMapAt levels ys answer

module _ (levels : ℕ) (xs : List ℕ) where
  there : (o : Opening) (v : Form) (found : Form × List ℕ) → IsOpening xs o → Stands o xs v found.1 → found.0 ≡ tree_value v → depth v ≤ levels
      → IsLiteralAt levels xs (Some found)
  there o v found i s value shallow = let l = literal_of o xs v found.1 i s in (v, value, l.0, l.1, shallow)

  opened_found : (o : Opening) (answer : Option (Form × List ℕ)) → IsOpening xs o
      → ((w : Form) (rest : List ℕ) → BeginsWithLiteral xs w rest → Stops is_word_byte rest → Stands o xs w rest) → IsOpenedAt o levels xs answer
      → IsLiteralAt levels xs answer
  unfolding plain_at
  opened_found plain (Some found) i meant h =
      let e : (value_in (front is_word_byte xs) ≡ Some found.0) × (past is_word_byte xs ≡ found.1) = grind arith in
      let flat = value_is_flat levels (front is_word_byte xs) found.0 e.0 in
      there plain found.0 found tt e flat.0 flat.1
  opened_found plain None i meant h = λ utf8 w rest b d stops. let e = (meant w rest b stops).0 in grind arith
  opened_found (quoted safe ys) (Some found) i meant h = there (quoted safe ys) (marked h.1 safe) found i (h.0, h.1, h.2, refl, h.4) h.3 (omega arith)
  opened_found (quoted safe ys) None i meant h = λ utf8 w rest b d stops.
      let s = meant w rest b stops in
      h s.1 s.0 rest (quoted_utf8 safe s.0 rest (subst IsUtf8 (i ∙ ap (λ zs. mark_of safe ++ (34 ∷ zs)) s.4) utf8)) s.2 s.4
  opened_found (hex ys) answer i meant h = rw h (go (hex_at ys) refl)
    where
      go : (read : Option (List ℕ × List ℕ)) → hex_at ys ≡ read → IsLiteralAt levels xs (bytes_read read)
      go (Some found) e = there (hex ys) (bytes found.0) (bytes found.0, found.1) i (found.0, refl, e) refl (omega arith)
      go None e = λ utf8 w rest b d stops. let found = (meant w rest b stops).2 in cc
  opened_found (bracket ys) (Some found) i meant h = there (bracket ys) (array h.0) found i (h.0, refl, h.2) h.1 h.3
  opened_found (bracket ys) None i meant h = λ utf8 w rest b d stops.
      let s = meant w rest b stops in
      h (after_byte ys 91 (omega arith) (subst IsUtf8 i utf8)) s.0 rest s.2 (subst (λ v. depth v ≤ levels) s.1 d)
  opened_found (brace ys) (Some found) i meant h = there (brace ys) (object h.0) found i (h.0, refl, h.2) h.1 h.3
  opened_found (brace ys) None i meant h = λ utf8 w rest b d stops.
      let s = meant w rest b stops in
      h (after_byte ys 123 (omega arith) (subst IsUtf8 i utf8)) s.0 rest s.2 (subst (λ v. depth v ≤ levels) s.1 d)

  pub literal_found : (answer : Option (Form × List ℕ)) → IsOpenedAt (opened xs) levels xs answer → IsLiteralAt levels xs answer
  literal_found answer h = opened_found (opened xs) answer (opening_is xs) (λ w rest b stops. stands xs w rest b (stops_end w rest stops)) h

-- where nothing else opens a literal
pub plain_found : (levels : ℕ) (xs : List ℕ) (answer : Option (Form × List ℕ)) → ((ys : List ℕ) → xs ≢ (34 ∷ []) ++ ys)
    → ((ys : List ℕ) → xs ≢ (115 ∷ 34 ∷ []) ++ ys) → ((ys : List ℕ) → xs ≢ (120 ∷ 34 ∷ []) ++ ys) → ((ys : List ℕ) → xs ≢ (91 ∷ []) ++ ys)
    → ((ys : List ℕ) → xs ≢ (123 ∷ []) ++ ys) → answer ≡ plain_at xs → IsLiteralAt levels xs answer
plain_found levels xs answer normal safe digits array_opens map_opens e = literal_found levels xs answer (by (opened xs) (opening_is xs))
  where
    by : (o : Opening) → IsOpening xs o → IsOpenedAt o levels xs answer
    by plain i = e
    by (quoted true ys) i = absurd (safe ys i)
    by (quoted false ys) i = absurd (normal ys i)
    by (hex ys) i = absurd (digits ys i)
    by (bracket ys) i = absurd (array_opens ys i)
    by (brace ys) i = absurd (map_opens ys i)

-- from what the reader of texts says
pub quoted_none : (safe : Bool) (xs : List ℕ) → BeginsWithNoText xs → IsQuotedAt safe xs None
quoted_none safe xs h = λ t inner rest u s e. h t (length inner + 1) (text_is_utf8 inner t s u) (inner, rest, s, e, refl)

pub quoted_some : (safe : Bool) (xs t rest : List ℕ) (used : ℕ) (value : Form) → BeginsWithText xs t used → value ≡ marked t safe → rest ≡ drop used xs
    → IsQuotedAt safe xs (Some (value, rest))
quoted_some safe xs t rest used value h v r =
    let cut : xs ≡ (h.0 ++ (34 ∷ [])) ++ h.1 = h.3 ∙ sym (append_assoc h.0 (34 ∷ []) h.1) in
    let used_is : length (h.0 ++ (34 ∷ [])) ≡ used = omega (arith, length-append h.0 (34 ∷ []), h.4) in
    let behind : rest ≡ h.1 = r ∙ ap (drop used) cut ∙ drop_at (h.0 ++ (34 ∷ [])) h.1 used used_is in
    (h.0, t, h.2, v, h.3 ∙ ap (λ ys. h.0 ++ 34 ∷ ys) (sym behind))
