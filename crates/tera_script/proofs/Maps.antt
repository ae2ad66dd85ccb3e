-- The pairs of a map: one pair, and the loop over them.
use Rattle.std.proofs.Common.{◌≡◌, ◌≢◌, ◌≤◌, ℕ, suc, max, List, [], ◌∷◌, ◌++◌, length, map, Some, None, refl, ap, sym, ◌∙◌, arith, subst}
use Rattle.std.proofs.lemmas.List.{map-append}
use Rattle.std.proofs.lemmas.List.Sums.{fold-append}
use Rattle.std.specs.Str.{IsUtf8}
use Rattle.tera_meaning.specs.Integer.{Integer}
use Rattle.tera_meaning.specs.Form.{Form, MarkedText}
use Rattle.tera_meaning.specs.KeyMeaning.{KeyForm}
use Rattle.tera_meaning.specs.Pairs.{key_form_order, put}
use Rattle.tera_meaning.specs.Tree.{Members, object, no_members, member, members, members_list, depth, members_depth}
use Rattle.tera_meaning.proofs.TreeLaws.{list_of_members}
use Rattle.tera_script.specs.Word.{is_blank}
use Rattle.tera_script.specs.Literal.{tree_value, pair_values, in_places}
use Rattle.tera_script.specs.Readers.{past, AllIn, BeginsWithLiteral, BeginsWithKey, BeginsWithPair, IsKeyAt, IsLiteralAt, IsPairAt, IsMapAt}
use Rattle.tera_script.proofs.Fronts.{bracket_or_comma}
use Rattle.tera_script.proofs.Literals.{EndsPair, pairs_closed, only_at, only_pair, key_literal, key_ends, only_key}
use Rattle.tera_script.proofs.Openings.{literal_utf8}
use Rattle.tera_script.proofs.Series.{ArePartsOf, deepest, IsSoFar, IsNowhere, IsWhole, past_utf8, none_so_far, no_part, no_mark, last_part, one_more}
use Rattle.tera_script.proofs.Utf8.{after_byte}
use Rattle.tera_values.specs.Key.{key_value}

-- ---- one pair

pub at_value_utf8 : (xs : List ℕ) (k : KeyForm) (after next : List ℕ) → BeginsWithKey xs k after → past is_blank after ≡ 58 ∷ next → IsUtf8 xs
    → IsUtf8 (past is_blank next)
at_value_utf8 xs k after next b e u =
    past_utf8 next (after_byte next 58 (omega arith) (subst IsUtf8 e (past_utf8 after (literal_utf8 xs (key_value k) after (key_literal xs k after b) u))))

abbrev pub pair_depth : KeyForm × Form → ℕ
pair_depth p = depth p.1

pub pair_parts : ArePartsOf BeginsWithPair EndsPair 125
pair_parts = record {
  closed = pairs_closed;
  only = λ e. only_pair e.0 e.1 (only_at e.1);
  utf8 = λ xs e rest b u. literal_utf8 (past is_blank b.1) e.1 rest b.4 (at_value_utf8 xs e.0 b.0 b.1 b.2 b.3 u);
}

-- where no key stands
pub no_pair_key : {levels : ℕ} {xs : List ℕ} → IsKeyAt xs None → IsPairAt levels xs None
no_pair_key n = λ utf8 pair rest b d stops. n utf8 pair.0 b.0 b.2 (bracket_or_comma b.0 58 b.1 b.3 refl)

module _ {xs : List ℕ} {k : KeyForm} {after : List ℕ} (read : IsKeyAt xs (Some (k, after))) where
  -- a pair that stands there has the key that was read
  same_after : (pair : KeyForm × Form) (rest : List ℕ) (b : BeginsWithPair xs pair rest) → (k ≡ pair.0) × (after ≡ b.0)
  same_after pair rest b = only_key xs k after pair.0 b.0 read.0 b.2 read.1 (key_ends pair.0 b.0 b.1 b.3)

  -- behind it stands a colon
  pub no_colon : {levels : ℕ} → ((next : List ℕ) → past is_blank after ≢ 58 ∷ next) → IsPairAt levels xs None
  no_colon n = λ utf8 pair rest b d stops. n b.1 (ap (past is_blank) (same_after pair rest b).1 ∙ b.3)

  module _ {next : List ℕ} (e : past is_blank after ≡ 58 ∷ next) where
    pub no_pair_value : {levels : ℕ} → IsLiteralAt levels (past is_blank next) None → IsPairAt levels xs None
    no_pair_value n = λ utf8 pair rest b d stops.
        let same : b.1 ≡ next = cc ((same_after pair rest b).1) in
        n (at_value_utf8 xs k after next read.0 e utf8) pair.1 rest (subst (λ ys. BeginsWithLiteral (past is_blank ys) pair.1 rest) same b.4) d stops

    -- and before it the literal of a value
    pub pair_found : {levels : ℕ} {v : Form} {rest : List ℕ} → IsLiteralAt levels (past is_blank next) (Some (v, rest))
        → IsPairAt levels xs (Some (k, v, rest))
    pair_found h = (h.0, h.1, (after, next, read.0, e, h.2), h.3, h.4)

-- ---- all of them

abbrev pair_value : KeyForm × Form → KeyForm × Form
pair_value p = (p.0, tree_value p.1)

pub deepest_pair : (all : Members Integer MarkedText KeyForm) → deepest pair_depth (members_list all) ≡ members_depth all
deepest_pair no_members = refl
deepest_pair (member k x ps) = ap (max (depth x)) (deepest_pair ps)

pair_values_are : (trees : List (KeyForm × Form)) → pair_values (members trees) ≡ map pair_value trees
pair_values_are [] = refl
pair_values_are (t ∷ ts) = ap (λ ps. pair_value t ∷ ps) (pair_values_are ts)

-- the pairs so far are those of trees that stand there
pub record HasPairs (deep : ℕ) (inside : List ℕ) (pairs : List (KeyForm × Form)) (rest : List ℕ) : Type 0 where
  pub trees : List (KeyForm × Form)
  pub pairs_are : pairs ≡ in_places (map pair_value trees)
  pub so_far : IsSoFar BeginsWithPair EndsPair 125 pair_depth deep inside trees rest

pub no_pairs_yet : {deep : ℕ} {inside : List ℕ} {pairs : List (KeyForm × Form)} {rest : List ℕ} → pairs ≡ [] → rest ≡ past is_blank inside
    → ((end : List ℕ) → rest ≢ 125 ∷ end) → HasPairs deep inside pairs rest
no_pairs_yet {deep} {inside} {pairs} {rest} e r opened = record {
  trees = [];
  pairs_are = e;
  so_far = none_so_far BeginsWithPair EndsPair 125 pair_depth deep inside rest r opened;
}

nowhere : (levels : ℕ) (inside : List ℕ) → IsNowhere BeginsWithPair EndsPair 125 pair_depth levels inside → IsMapAt levels inside None
nowhere levels inside n = λ utf8 all rest h d. n utf8 (members_list all) rest h (subst (λ m. suc m ≤ levels) (sym (deepest_pair all)) d)

whole : (levels : ℕ) (inside : List ℕ) (trees pairs : List (KeyForm × Form)) (value : Form) (end : List ℕ) → IsWhole BeginsWithPair EndsPair 125
    pair_depth
    levels inside trees end
    → pairs ≡ in_places (map pair_value trees) → value ≡ object (members pairs) → IsMapAt levels inside (Some (value, end))
whole levels inside trees pairs value end w pairs_are is =
    let listed = list_of_members trees in (
      members trees,
      is ∙ ap (λ ps. object (members ps)) pairs_are ∙ ap (λ ps. object (members (in_places ps))) (sym (pair_values_are trees)),
      subst (λ l. AllIn BeginsWithPair 125 inside l end) (sym listed) w.0,
      subst (λ m. suc m ≤ levels) (deepest_pair (members trees)) (subst (λ l. suc (deepest pair_depth l) ≤ levels) (sym listed) w.1),
    )

module _ {deep : ℕ} {inside : List ℕ} {pairs : List (KeyForm × Form)} {rest : List ℕ} (h : HasPairs deep inside pairs rest) {levels : ℕ}
    (l : levels ≡ suc deep)
  where
    -- where no pair stands
    pub no_more_pair : IsPairAt deep rest None → IsMapAt levels inside None
    no_more_pair n = nowhere levels inside (no_part pair_parts h.so_far l n)

    module _ {k : KeyForm} {v : Form} {behind : List ℕ} (read : IsPairAt deep rest (Some (k, v, behind))) where
      pub no_pair_mark : ((end : List ℕ) → past is_blank behind ≢ 125 ∷ end) → ((end : List ℕ) → past is_blank behind ≢ 44 ∷ end)
          → IsMapAt levels inside None
      no_pair_mark closed comma = nowhere levels inside (no_mark pair_parts h.so_far l read.2 read.3 closed comma)

      pub no_pair_end : length (past is_blank behind) ≡ 0 → IsMapAt levels inside None
      no_pair_end z = no_pair_mark (λ end e. omega (arith, z, ap length e)) (λ end e. omega (arith, z, ap length e))

      more_pairs : {longer : List (KeyForm × Form)} → longer ≡ put key_form_order pairs k v
          → longer ≡ in_places (map pair_value (h.trees ++ (k, read.0) ∷ []))
      more_pairs u =
          let last = map-append pair_value h.trees ((k, read.0) ∷ []) in
          u ∙ (λ i. put key_form_order (h.pairs_are i) k (read.1 i))
          ∙ sym (ap in_places last ∙ fold-append (λ ps e. put key_form_order ps e.0 e.1) [] (map pair_value h.trees) (pair_value (k, read.0) ∷ []))

      pub last_pair : {longer : List (KeyForm × Form)} {value : Form} {end : List ℕ} → longer ≡ put key_form_order pairs k v
          → value ≡ object (members longer) → past is_blank behind ≡ 125 ∷ end → IsMapAt levels inside (Some (value, end))
      last_pair {longer} {value} {end} u is m =
          whole levels inside (h.trees ++ (k, read.0) ∷ []) longer value end (last_part pair_parts h.so_far l read.2 read.3 read.4 m) (more_pairs u) is

      pub next_pair : {longer : List (KeyForm × Form)} {next after : List ℕ} → longer ≡ put key_form_order pairs k v
          → past is_blank behind ≡ 44 ∷ next → after ≡ past is_blank next → HasPairs deep inside longer after
      next_pair {longer} {next} {after} u m a = record {
        trees = h.trees ++ (k, read.0) ∷ [];
        pairs_are = more_pairs u;
        so_far = one_more pair_parts h.so_far l read.2 read.3 read.4 m a;
      }
