-- What stands at the front of bytes that begin with a literal, and what stands between brackets and braces.
use Rattle.std.proofs.Common.{arith, ◌≡◌, ℕ, Bool, true, false, List, [], ◌∷◌, ◌++◌, refl, ap, sym, ◌∙◌, append_assoc, subst}
use Rattle.tera_meaning.specs.Integer.{Integer}
use Rattle.tera_meaning.specs.Form.{Form, MarkedText}
use Rattle.tera_meaning.specs.KeyMeaning.{KeyForm, truth_key, number_key, text_key, owned, borrowed}
use Rattle.tera_meaning.specs.Tree.{Items, Members, text, bytes, array, object, no_items, item, no_members, member, items_list, members_list}
use Rattle.tera_script.specs.Word.{is_blank, AreBlanks}
use Rattle.tera_script.specs.Literal.{mark_of, IsPadded, IsPair, SpellsKey, SpellsTree, SpellsItems, SpellsMore, SpellsPairs, SpellsMorePairs}
use Rattle.tera_script.specs.Readers.{Stops, front, past, BeginsWithLiteral, BeginsWithKey, BeginsWithPair, ItemsAt, MoreAt, PairsAt, MorePairsAt}
use Rattle.tera_values.specs.Key.{key_value}
use Rattle.tera_script.proofs.Fronts.{past_is, front_cut, front_all}
use Rattle.tera_script.proofs.Series.{StandsBefore, HasMore, no_more_back, more_back, more_in, all_in}
use Rattle.tera_script.proofs.Words.{flat_word, word_stops_blanks}

pub quoted_bytes : (safe : Bool) (inner rest : List ℕ) → (mark_of safe ++ (34 ∷ inner) ++ (34 ∷ [])) ++ rest ≡ mark_of safe ++ (34 ∷ (inner ++ 34 ∷ rest))
quoted_bytes true inner rest = ap (λ xs. 115 ∷ 34 ∷ xs) (append_assoc inner (34 ∷ []) rest)
quoted_bytes false inner rest = ap (λ xs. 34 ∷ xs) (append_assoc inner (34 ∷ []) rest)

mark_stops_blanks : (safe : Bool) (xs : List ℕ) → Stops is_blank (mark_of safe ++ (34 ∷ xs))
mark_stops_blanks safe xs = grind arith

-- no literal begins with a blank
pub literal_stops_blanks : (literal rest : List ℕ) (value : Form) → SpellsTree literal value → Stops is_blank (literal ++ rest)
literal_stops_blanks literal rest (text t) h = rw (h.2, quoted_bytes t.safe h.0 rest) (mark_stops_blanks t.safe (h.0 ++ 34 ∷ rest))
literal_stops_blanks literal rest (bytes bs) h = rw (h.2) refl
literal_stops_blanks literal rest (array xs) h = rw (h.2) refl
literal_stops_blanks literal rest (object ps) h = rw (h.2) refl
literal_stops_blanks literal rest v h = word_stops_blanks literal rest v (flat_word literal v tt h)

-- a key is spelled as the value that it is
pub key_tree : (literal : List ℕ) (k : KeyForm) → SpellsKey literal k → SpellsTree literal (key_value k)
key_tree literal (truth_key b) h = h
key_tree literal (number_key n) h = h
key_tree literal (text_key (owned t)) h = h
key_tree literal (text_key (borrowed t)) h = absurd h

-- what stands between blanks, behind those before it
padded_parts : (P : List ℕ → Type 0) (first tail : List ℕ) (p : IsPadded P first) → Stops is_blank (p.1 ++ (p.2 ++ tail)) → past is_blank (first ++ tail) ≡ p.1
    ++ (p.2 ++ tail)
padded_parts P first tail (before, inside, after, blanks, _, _, e) stops =
    rw (e, append_assoc before (inside ++ after) tail, append_assoc inside after tail) (past_is is_blank before (inside ++ (after ++ tail)) blanks stops)

-- an item, a key and a pair between blanks
padded_at : (first tail : List ℕ) (value : Form) → IsPadded (λ literal. SpellsTree literal value) first → StandsBefore BeginsWithLiteral (first ++ tail) value
    tail
padded_at first tail value p =
    let is = padded_parts (λ literal. SpellsTree literal value) first tail p (literal_stops_blanks p.1 (p.2 ++ tail) value p.4) in
    record { after = p.2; blanks = p.5; begins = record { literal = p.1; spells = p.4; spelled = is } }

key_at : (first tail : List ℕ) (k : KeyForm) → IsPadded (λ literal. SpellsKey literal k) first → StandsBefore BeginsWithKey (first ++ tail) k tail
key_at first tail k p =
    let is = padded_parts (λ literal. SpellsKey literal k) first tail p (literal_stops_blanks p.1 (p.2 ++ tail) (key_value k) (key_tree p.1 k p.4)) in
    record { after = p.2; blanks = p.5; begins = record { literal = p.1; spells = p.4; spelled = is } }

abbrev SpellsPair : KeyForm → Form → List ℕ → Type 0
SpellsPair k value = IsPair (λ literal. SpellsKey literal k) (λ literal. SpellsTree literal value)

pair_at : (pair tail : List ℕ) (k : KeyForm) (value : Form) → SpellsPair k value pair → StandsBefore BeginsWithPair (pair ++ tail) (k, value) tail
pair_at pair tail k value p =
    let key = key_at p.0 (58 ∷ (p.1 ++ tail)) k p.2 in
    let second = padded_at p.1 tail value p.3 in
    let spelled = ap (λ xs. xs ++ tail) p.4 ∙ append_assoc p.0 (58 ∷ p.1) tail in
    record {
      after = second.after;
      blanks = second.blanks;
      begins = (
        key.after ++ 58 ∷ (p.1 ++ tail),
        p.1 ++ tail,
        subst (λ xs. BeginsWithKey (past is_blank xs) k (key.after ++ 58 ∷ (p.1 ++ tail))) (sym spelled) key.begins,
        past_is is_blank key.after (58 ∷ (p.1 ++ tail)) key.blanks refl,
        second.begins,
      );
    }

more_at : (all : Items Integer MarkedText KeyForm) (after more rest : List ℕ) → AreBlanks after → SpellsMore more all → MoreAt (after ++ (more ++ 93 ∷ rest))
    all rest
more_at no_items after more rest b h = rw h (past_is is_blank after (93 ∷ rest) b refl)
more_at (item value all) after more rest b h =
    let s = padded_at h.0 (h.1 ++ 93 ∷ rest) value h.2 in
    more_in BeginsWithLiteral 93 value (items_list all) after more h.0 h.1 rest b h.4 s (more_at all s.after h.1 rest s.blanks h.3)

pub items_at : (all : Items Integer MarkedText KeyForm) (inner rest : List ℕ) → SpellsItems inner all → ItemsAt (inner ++ 93 ∷ rest) all rest
items_at no_items inner rest h = past_is is_blank inner (93 ∷ rest) h refl
items_at (item value all) inner rest h =
    let s = padded_at h.0 (h.1 ++ 93 ∷ rest) value h.2 in
    all_in BeginsWithLiteral 93 value (items_list all) inner h.0 h.1 rest h.4 s (more_at all s.after h.1 rest s.blanks h.3)

more_pairs_at : (all : Members Integer MarkedText KeyForm) (after more rest : List ℕ) → AreBlanks after → SpellsMorePairs more all
    → MorePairsAt (after ++ (more ++ 125 ∷ rest)) all rest
more_pairs_at no_members after more rest b h = rw h (past_is is_blank after (125 ∷ rest) b refl)
more_pairs_at (member k value all) after more rest b h =
    let s = pair_at h.0 (h.1 ++ 125 ∷ rest) k value h.2 in
    more_in BeginsWithPair 125 (k, value) (members_list all) after more h.0 h.1 rest b h.4 s (more_pairs_at all s.after h.1 rest s.blanks h.3)

pub pairs_at : (all : Members Integer MarkedText KeyForm) (inner rest : List ℕ) → SpellsPairs inner all → PairsAt (inner ++ 125 ∷ rest) all rest
pairs_at no_members inner rest h = past_is is_blank inner (125 ∷ rest) h refl
pairs_at (member k value all) inner rest h =
    let s = pair_at h.0 (h.1 ++ 125 ∷ rest) k value h.2 in
    all_in BeginsWithPair 125 (k, value) (members_list all) inner h.0 h.1 rest h.4 s (more_pairs_at all s.after h.1 rest s.blanks h.3)

-- and back: a part behind blanks, and the blanks before what follows it
abbrev pub Back : (P : List ℕ → Type 0) → List ℕ → List ℕ → Type 0
Back P next tail = (first : List ℕ) × P first × (next ≡ first ++ tail)

between_blanks : (P : List ℕ → Type 0) (next literal behind after tail : List ℕ) → P literal → past is_blank next ≡ literal ++ behind
    → AreBlanks after → behind ≡ after ++ tail → Back (IsPadded P) next tail
between_blanks P next literal behind after tail p s blanks e =
    let before = front is_blank next in
    let first = before ++ (literal ++ after) in
    let cut = front_cut is_blank next _ (s ∙ ap (λ xs. literal ++ xs) e ∙ sym (append_assoc literal after tail)) in
    (first, (before, literal, after, front_all is_blank next, p, blanks, refl), cut ∙ sym (append_assoc before (literal ++ after) tail))

padded_back : (next behind after tail : List ℕ) (value : Form) → BeginsWithLiteral (past is_blank next) value behind → AreBlanks after
    → behind ≡ after ++ tail → Back (IsPadded (λ literal. SpellsTree literal value)) next tail
padded_back next behind after tail value b blanks e =
    between_blanks (λ literal. SpellsTree literal value) next b.literal behind after tail b.spells b.spelled blanks e

pair_back : (next behind after tail : List ℕ) (k : KeyForm) (value : Form) → BeginsWithPair (past is_blank next) (k, value) behind → AreBlanks after
    → behind ≡ after ++ tail → Back (SpellsPair k value) next tail
pair_back next behind after tail k value b blanks e =
    let second = padded_back b.1 behind after tail value b.4 blanks e in
    let colon = front_cut is_blank b.0 _ (b.3 ∙ ap (λ xs. 58 ∷ xs) second.2) in
    let gap = front is_blank b.0 in
    let first = between_blanks (λ literal. SpellsKey literal k) next b.2.literal b.0 gap (58 ∷ (second.0 ++ tail)) b.2.spells b.2.spelled
    (front_all is_blank b.0) colon in
    (first.0 ++ 58 ∷ second.0, (first.0, second.0, first.1, second.1, refl), first.2 ∙ sym (append_assoc first.0 (58 ∷ second.0) tail))

more_spelled : (all : Items Integer MarkedText KeyForm) (xs rest : List ℕ) → MoreAt xs all rest → HasMore (λ more. SpellsMore more all) 93 xs rest
more_spelled no_items xs rest h = no_more_back (λ more. SpellsMore more no_items) 93 xs rest refl h
more_spelled (item value all) xs rest h =
    let m = more_spelled all h.1 rest h.4 in
    more_back _ _ (λ more. SpellsMore more (item value all)) 93 xs h.0 h.1 rest h.2 m
    (padded_back h.0 h.1 m.after (m.more ++ 93 ∷ rest) value h.3 m.blanks m.spelled) (λ first more p s. (first, more, p, s, refl))

pub items_spelled : (all : Items Integer MarkedText KeyForm) (xs rest : List ℕ) → ItemsAt xs all rest → Back (λ inner. SpellsItems inner all) xs (93 ∷ rest)
items_spelled no_items xs rest h = (front is_blank xs, front_all is_blank xs, front_cut is_blank xs (93 ∷ rest) h)
items_spelled (item value all) xs rest h =
    let m = more_spelled all h.0 rest h.2 in
    let p = padded_back xs h.0 m.after (m.more ++ 93 ∷ rest) value h.1 m.blanks m.spelled in
    (p.0 ++ m.more, (p.0, m.more, p.1, m.spells, refl), p.2 ∙ sym (append_assoc p.0 m.more (93 ∷ rest)))

more_pairs_spelled : (all : Members Integer MarkedText KeyForm) (xs rest : List ℕ) → MorePairsAt xs all rest
    → HasMore (λ more. SpellsMorePairs more all) 125 xs rest
more_pairs_spelled no_members xs rest h = no_more_back (λ more. SpellsMorePairs more no_members) 125 xs rest refl h
more_pairs_spelled (member k value all) xs rest h =
    let m = more_pairs_spelled all h.1 rest h.4 in
    more_back _ _ (λ more. SpellsMorePairs more (member k value all)) 125 xs h.0 h.1 rest h.2 m
    (pair_back h.0 h.1 m.after (m.more ++ 125 ∷ rest) k value h.3 m.blanks m.spelled) (λ first more p s. (first, more, p, s, refl))

pub pairs_spelled : (all : Members Integer MarkedText KeyForm) (xs rest : List ℕ) → PairsAt xs all rest → Back (λ inner. SpellsPairs inner all) xs (125 ∷ rest)
pairs_spelled no_members xs rest h = (front is_blank xs, front_all is_blank xs, front_cut is_blank xs (125 ∷ rest) h)
pairs_spelled (member k value all) xs rest h =
    let m = more_pairs_spelled all h.0 rest h.2 in
    let p = pair_back xs h.0 m.after (m.more ++ 125 ∷ rest) k value h.1 m.blanks m.spelled in
    (p.0 ++ m.more, (p.0, m.more, p.1, m.spells, refl), p.2 ∙ sym (append_assoc p.0 m.more (125 ∷ rest)))
