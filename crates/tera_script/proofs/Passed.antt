-- Parts that are passed: what their readers may answer.
use Rattle.std.proofs.Common.{◌≡◌, ◌≢◌, ◌≤◌, ℕ, zero, suc, Bool, true, false, List, [], ◌∷◌, ◌++◌, length, Some, None, refl, ap, sym, ◌∙◌, arith, subst}
use Rattle.std.proofs.Common.{◌+◌, ◌<◌, ◌⊎◌, Option, take, drop, append_assoc, length-append}
use Rattle.std.specs.Borrow.{Bor}
use Rattle.std.specs.Prelude.{IsSome, Result, Ok, Err, encode_utf8, slice_index}
use Rattle.std.proofs.lemmas.List.{drop_at}
use Rattle.std.specs.List.{AllByRecursion}
use Rattle.std.specs.Str.{IsUtf8}
use Rattle.tera_meaning.specs.Integer.{Integer}
use Rattle.tera_meaning.specs.Form.{Form, MarkedText}
use Rattle.tera_meaning.specs.KeyMeaning.{KeyForm, truth_key, number_key, text_key, owned, borrowed}
use Rattle.tera_meaning.specs.Tree.{Members, object, bytes as byte_string, members, members_list, depth}
use Rattle.tera_meaning.proofs.TreeLaws.{list_of_members}
use Rattle.tera_values.specs.Key.{text_in_key}
use Rattle.tera_values.specs.View.{marked}
use Rattle.tera_script.specs.Word.{is_blank}
use Rattle.tera_script.specs.Line.{SpellsOperand, SpellsBoth, levels}
use Rattle.tera_script.specs.Literal.{SpellsKey, mark_of, tree_value}
use Rattle.tera_script.specs.Text.{BeginsWithText}
use Rattle.tera_script.specs.TextParts.{BeginsWithRun, IsPlain, text_from, escape_at, at_token, at_letter}
use Rattle.tera_script.specs.Readers.{byte_of, gap_at, operand_at, hex_at, plain_at, bytes_read, IsKeyAt}
use Rattle.tera_script.specs.inner.Command.{EndsBoth, EndsName, IsPartAt, IsTextAt, IsValueAt}
use Rattle.tera_script.specs.declared.stop.Stop.{Stop}
use Rattle.tera_script.specs.Readers.{past, behind, AllIn, MoreIn, BeginsWithLiteral, BeginsWithKey, BeginsWithPair}
use Rattle.tera_script.specs.Readers.{Ends, IsLiteralAt, IsArrayAt, IsMapAt, IsQuotedAt}
use Rattle.tera_script.specs.inner.Passed.{Passes, IsTextIf, BeginsWithPairIf, IsKeyIfAt, IsPairIfAt, IsMapIfAt}
use Rattle.tera_script.proofs.Arrays.{HasItems, next_item}
use Rattle.std.specs.Char.{digit_value}
use Rattle.std.proofs.lemmas.Bool.Decides.{nat_tests}
use Rattle.tera_script.proofs.Fronts.{bracket_or_comma}
use Rattle.tera_script.proofs.HexBytes.{hex_closed, hex_more}
use Rattle.tera_script.proofs.Keys.{no_text_key, text_key_found}
use Rattle.tera_script.proofs.Values.{AreParts, both_at, name_part, text_at, value_at}
use Rattle.tera_script.proofs.Literals.{EndsPair, pairs_closed, only_at, only_pair, key_ends, only_key, literal_found, plain_found, quoted_none}
use Rattle.tera_script.proofs.Maps.{pair_parts, pair_depth, deepest_pair, at_value_utf8}
use Rattle.tera_script.proofs.Openings.{stops_end}
use Rattle.tera_script.proofs.Series.{ArePartsOf, deepest, IsSoFar, IsNowhere, IsWhole, none_so_far, no_part, no_mark, last_part, one_more}
use Rattle.tera_script.proofs.Texts.{token_found, run_found, read_whole, stopped, no_escape, escaped}

-- ---- arrays: items stand there, whatever is made of them

pub record HasSomeItems (deep : ℕ) (inside rest : List ℕ) : Type 0 where
  pub values : List Form
  pub has : HasItems deep inside values rest

pub some_items_next : {deep levels : ℕ} {inside rest behind next after : List ℕ} {v : Form} → levels ≡ suc deep → HasSomeItems deep inside rest
    → IsLiteralAt deep rest (Some (v, behind)) → past is_blank behind ≡ 44 ∷ next → after ≡ past is_blank next → HasSomeItems deep inside after
some_items_next {v = v} l h read m a = record { values = h.values ++ v ∷ []; has = next_item h.has l read refl m a }

-- ---- maps, whose keys may have to be texts

module _ (texts : Bool) where
  pub parts_if : ArePartsOf (BeginsWithPairIf texts) EndsPair 125
  parts_if = record {
    closed = record {
      stops = λ e. stops_end e.1;
      opens = λ xs e rest ys b is ends. pairs_closed.opens xs e rest ys b.0 is ends;
      word = refl;
      comma = λ e. omega arith;
    };
    only = λ e xs x b s f y c t. only_pair e.0 e.1 (only_at e.1) xs x b.0 s f y c.0 t;
    utf8 = λ xs e rest b u. pair_parts.utf8 xs e rest b.0 u;
  }

  -- where no key stands
  pub no_key_if : {levels : ℕ} {xs : List ℕ} → IsKeyIfAt texts xs None → IsPairIfAt texts levels xs None
  no_key_if n = λ utf8 pair rest b d stops. n utf8 pair.0 b.0.0 b.0.2 b.1 (bracket_or_comma b.0.0 58 b.0.1 b.0.3 refl)

  module _ {xs : List ℕ} {k : KeyForm} {after : List ℕ} (read : IsKeyIfAt texts xs (Some (k, after))) where
    same_key : (pair : KeyForm × Form) (rest : List ℕ) (b : BeginsWithPair xs pair rest) → (k ≡ pair.0) × (after ≡ b.0)
    same_key pair rest b = only_key xs k after pair.0 b.0 read.0 b.2 read.1 (key_ends pair.0 b.0 b.1 b.3)

    -- behind it stands a colon
    pub no_colon_if : {levels : ℕ} → ((next : List ℕ) → past is_blank after ≢ 58 ∷ next) → IsPairIfAt texts levels xs None
    no_colon_if n = λ utf8 pair rest b d stops. n b.0.1 (ap (past is_blank) (same_key pair rest b.0).1 ∙ b.0.3)

    module _ {next : List ℕ} (e : past is_blank after ≡ 58 ∷ next) where
      same_next : (pair : KeyForm × Form) (rest : List ℕ) (b : BeginsWithPair xs pair rest) → b.1 ≡ next
      same_next pair rest b = cc ((same_key pair rest b).1)

      pub no_value_if : {levels : ℕ} → IsLiteralAt levels (past is_blank next) None → IsPairIfAt texts levels xs None
      no_value_if n = λ utf8 pair rest b d stops.
          let same = same_next pair rest b.0 in
          n (at_value_utf8 xs k after next read.0 e utf8) pair.1 rest (subst (λ ys. BeginsWithLiteral (past is_blank ys) pair.1 rest) same b.0.4) d stops

      -- and before it the literal of a value
      pub pair_if : {levels : ℕ} {v : Form} {rest : List ℕ} → (h : IsLiteralAt levels (past is_blank next) (Some (v, rest)))
          → IsPairIfAt texts levels xs (Some ((k, h.0), rest))
      pair_if h = (((after, next, read.0, e, h.2), read.2), h.3, h.4)

      pub value_if : (deep : ℕ) (result : Result (Bor (List ℕ)) Stop) → Passes (IsLiteralAt deep (past is_blank next)) result
          → Passes (IsPairIfAt texts deep xs) result
      value_if deep (Ok rest) h = ((k, h.1.0), pair_if h.1)
      value_if deep (Err stop) h = no_value_if h

  pub record HasPairsIf (deep : ℕ) (inside rest : List ℕ) : Type 0 where
    pub trees : List (KeyForm × Form)
    pub so_far : IsSoFar (BeginsWithPairIf texts) EndsPair 125 pair_depth deep inside trees rest

  pub no_pairs_if : {deep : ℕ} {inside rest : List ℕ} → rest ≡ past is_blank inside → ((end : List ℕ) → rest ≢ 125 ∷ end) → HasPairsIf deep inside rest
  no_pairs_if {deep} {inside} {rest} r opened =
      record { trees = []; so_far = none_so_far (BeginsWithPairIf texts) EndsPair 125 pair_depth deep inside rest r opened }

  nowhere_if : (levels : ℕ) (inside : List ℕ) → IsNowhere (BeginsWithPairIf texts) EndsPair 125 pair_depth levels inside → IsMapIfAt texts levels inside None
  nowhere_if levels inside n = λ utf8 all rest h d. n utf8 (members_list all) rest h (subst (λ m. suc m ≤ levels) (sym (deepest_pair all)) d)

  module _ {deep : ℕ} {inside rest : List ℕ} (h : HasPairsIf deep inside rest) {levels : ℕ} (l : levels ≡ suc deep) where
    pub no_pair_if : IsPairIfAt texts deep rest None → IsMapIfAt texts levels inside None
    no_pair_if n = nowhere_if levels inside (no_part parts_if h.so_far l n)

    module _ {pair : KeyForm × Form} {behind : List ℕ} (read : IsPairIfAt texts deep rest (Some (pair, behind))) where
      pub no_mark_if : ((end : List ℕ) → past is_blank behind ≢ 125 ∷ end) → ((end : List ℕ) → past is_blank behind ≢ 44 ∷ end)
          → IsMapIfAt texts levels inside None
      no_mark_if closed comma = nowhere_if levels inside (no_mark parts_if h.so_far l read.0 read.1 closed comma)

      pub no_end_if : length (past is_blank behind) ≡ 0 → IsMapIfAt texts levels inside None
      no_end_if z = no_mark_if (λ end e. omega (arith, z, ap length e)) (λ end e. omega (arith, z, ap length e))

      pub last_if : {end : List ℕ} → past is_blank behind ≡ 125 ∷ end → IsMapIfAt texts levels inside (Some (members (h.trees ++ pair ∷ []), end))
      last_if {end} m =
          let w = last_part parts_if h.so_far l read.0 read.1 read.2 m in
          let all = h.trees ++ pair ∷ [] in
          let listed = list_of_members all in (
            subst (λ ps. AllIn (BeginsWithPairIf texts) 125 inside ps end) (sym listed) w.0,
            subst (λ n. suc n ≤ levels) (deepest_pair (members all)) (subst (λ ps. suc (deepest pair_depth ps) ≤ levels) (sym listed) w.1),
          )

      pub next_if : {next after : List ℕ} → past is_blank behind ≡ 44 ∷ next → after ≡ past is_blank next → HasPairsIf deep inside after
      next_if m a = record { trees = h.trees ++ pair ∷ []; so_far = one_more parts_if h.so_far l read.0 read.1 read.2 m a }

-- what stands between the braces, with and without what is wanted of its keys
more_plain : (texts : Bool) (xs : List ℕ) (es : List (KeyForm × Form)) (rest : List ℕ) → MoreIn (BeginsWithPairIf texts) 125 xs es rest
    → MoreIn BeginsWithPair 125 xs es rest
more_plain texts xs [] rest h = h
more_plain texts xs (e ∷ es) rest h = (h.0, h.1, h.2, h.3.0, more_plain texts h.1 es rest h.4)

pub all_plain : (texts : Bool) (xs : List ℕ) (es : List (KeyForm × Form)) (rest : List ℕ) → AllIn (BeginsWithPairIf texts) 125 xs es rest
    → AllIn BeginsWithPair 125 xs es rest
all_plain texts xs [] rest h = h
all_plain texts xs (e ∷ es) rest h = (h.0, h.1.0, more_plain texts h.0 es rest h.2)

more_if : (texts : Bool) (xs : List ℕ) (es : List (KeyForm × Form)) (rest : List ℕ) → AllByRecursion (λ e. IsTextIf texts e.0) es
    → MoreIn BeginsWithPair 125 xs es rest → MoreIn (BeginsWithPairIf texts) 125 xs es rest
more_if texts xs [] rest t h = h
more_if texts xs (e ∷ es) rest t h = (h.0, h.1, h.2, (h.3, t.0), more_if texts h.1 es rest t.1 h.4)

pub all_if : (texts : Bool) (xs : List ℕ) (es : List (KeyForm × Form)) (rest : List ℕ) → AllByRecursion (λ e. IsTextIf texts e.0) es
    → AllIn BeginsWithPair 125 xs es rest → AllIn (BeginsWithPairIf texts) 125 xs es rest
all_if texts xs [] rest t h = h
all_if texts xs (e ∷ es) rest t h = (h.0, (h.1, t.0), more_if texts h.0 es rest t.1 h.2)

any_keys : (es : List (KeyForm × Form)) → AllByRecursion (λ e. IsTextIf false e.0) es
any_keys [] = tt
any_keys (e ∷ es) = ((λ yes. absurd (cc)), any_keys es)

pub map_found : (levels : ℕ) (xs rest : List ℕ) (all : Members Integer MarkedText KeyForm) → IsMapIfAt false levels xs (Some (all, rest))
    → IsMapAt levels xs (Some (tree_value (object all), rest))
map_found levels xs rest all h = (all, refl, all_plain false xs (members_list all) rest h.0, h.1)

pub no_map : {levels : ℕ} {xs : List ℕ} → IsMapIfAt false levels xs None → IsMapAt levels xs None
no_map {levels} {xs} n = λ utf8 all rest h d. n utf8 all rest (all_if false xs (members_list all) rest (any_keys (members_list all)) h) d

-- ---- texts: what is decoded, and then what the rest gives, is what all bytes give

pub record IsDecoded (bytes rest : List ℕ) : Type 0 where
  pub decoded : List ℕ
  pub is : behind decoded (text_from rest at_token) ≡ text_from bytes at_token

nothing_left : (token : List ℕ) → length token ≡ 0 → text_from token at_token ≡ None
unfolding text_from
nothing_left [] z = refl
nothing_left (b ∷ token) z = absurd (omega (arith, z))

module _ {bytes before : List ℕ} (h : IsDecoded bytes before) (n : ℕ) (within : n ≤ length before)
    (plain : (k : ℕ) → k < n → IsPlain (slice_index before k))
    (ends : n < length before → (slice_index before n ≡ 34) ⊎ (slice_index before n ≡ 92)) {token : List ℕ} (t : token ≡ drop n before)
  where
    abbrev run : List ℕ
    run = take n before

    begins : BeginsWithRun before run token
    begins = subst (BeginsWithRun before run) (sym t) (run_found before n within plain ends)

    -- where no byte is left
    pub text_stopped : length token ≡ 0 → (safe : Bool) → IsQuotedAt safe bytes None
    text_stopped z safe = quoted_none safe bytes (λ text used u b.
        stopped before run token h.decoded (h.decoded ++ run) bytes begins refl h.is (nothing_left token z) text used b)

    -- at the closing quote
    pub text_closed : {after : List ℕ} {byte : ℕ} → token ≡ byte ∷ after → byte ≡ 34 → (safe : Bool)
        → (value : Form) × IsQuotedAt safe bytes (Some (value, after))
    text_closed {after} e is safe =
        let all = h.decoded ++ run in
        let g = token_found bytes all after (read_whole before run token h.decoded all bytes begins refl h.is e is) in
        (marked all safe, (g.inner, all, g.spells, refl, g.spelled))

    -- at a backslash
    pub text_unescaped : {after : List ℕ} {byte : ℕ} → token ≡ byte ∷ after → byte ≢ 34 → None ≡ escape_at after at_letter → (safe : Bool)
        → IsQuotedAt safe bytes None
    text_unescaped e unclosed none safe = quoted_none safe bytes (λ text used u b.
        no_escape before run token h.decoded (h.decoded ++ run) bytes begins refl h.is e unclosed none text used b)

    pub text_escaped : (next : List ℕ) (c : ℕ) {after : List ℕ} {byte : ℕ} → token ≡ byte ∷ after → byte ≢ 34
        → Some (encode_utf8 c, next) ≡ escape_at after at_letter → IsDecoded bytes next
    text_escaped next c e unclosed found = record {
      decoded = (h.decoded ++ run) ++ encode_utf8 c;
      is = escaped before run token h.decoded (h.decoded ++ run) bytes begins refl h.is next c e unclosed found;
    }

-- ---- byte strings: some bytes so far and those of what is left are those of all

module _ (taken rest all : List ℕ) (h : behind taken (hex_at rest) ≡ hex_at all) where
  pub hex_stopped : length rest ≡ 0 → None ≡ hex_at all
  unfolding hex_at
  hex_stopped z = go rest z h
    where
      go : (rest : List ℕ) → length rest ≡ 0 → behind taken (hex_at rest) ≡ hex_at all → None ≡ hex_at all
      go [] z h = h
      go (b ∷ rest) z h = absurd (omega (arith, z))

  pub hex_end : {high : ℕ} {after : List ℕ} → rest ≡ high ∷ after → high ≡ 34 → (t : List ℕ) × (Some (t, after) ≡ hex_at all)
  hex_end {high} {after} e q = (taken ++ [], sym (ap (behind taken) (ap hex_at (e ∙ ap (λ b. b ∷ after) q) ∙ hex_closed after)) ∙ h)

  pub hex_odd : {high : ℕ} {after : List ℕ} → rest ≡ high ∷ after → high ≢ 34 → length after ≡ 0 → None ≡ hex_at all
  unfolding hex_at
  hex_odd {high} {after} e n z = sym (ap (behind taken) (ap hex_at e ∙ one high after n z)) ∙ h
    where
      one : (high : ℕ) (after : List ℕ) → high ≢ 34 → length after ≡ 0 → hex_at (high ∷ after) ≡ None
      one high [] n z = grind (arith, nat_tests)
      one high (b ∷ after) n z = absurd (omega (arith, z))

  pub hex_bad : {high low : ℕ} {after others : List ℕ} → rest ≡ high ∷ after → high ≢ 34 → after ≡ low ∷ others
      → ¬ ((digit_value high < 16) × (digit_value low < 16)) → None ≡ hex_at all
  unfolding hex_at
  hex_bad {high} {low} {after} {others} e n f bad =
      sym (ap (behind taken) (ap hex_at (e ∙ ap (λ xs. high ∷ xs) f) ∙ no_byte high low others n bad)) ∙ h
    where
      no_byte : (high low : ℕ) (others : List ℕ) → high ≢ 34 → ¬ ((digit_value high < 16) × (digit_value low < 16)) → hex_at (high ∷ low ∷ others) ≡ None
      no_byte high low others n bad = grind (arith, nat_tests, bad)

  pub hex_on : {high low b : ℕ} {after others : List ℕ} → rest ≡ high ∷ after → after ≡ low ∷ others
      → (digit_value high < 16) × (digit_value low < 16) → b ≡ byte_of high low
      → (t : List ℕ) × (behind t (hex_at others) ≡ hex_at all)
  hex_on {high} {low} {b} {after} {others} e f digits is = (taken ++ b ∷ [], hex_more taken rest after others high low b e f digits is ∙ h)

-- ---- operands

pub name_passed : (bytes : List ℕ) (result : Result (Bor (List ℕ)) Stop) → Passes (λ answer. answer ≡ operand_at bytes) result
    → Passes (IsPartAt SpellsOperand EndsName bytes) result
name_passed bytes (Ok rest) h = (h.0, name_part bytes h.1)
name_passed bytes (Err stop) h = name_part bytes h

module _ {E : Type 0} {Spells : List ℕ → E → Type 0} {EndsSo : E → List ℕ → Type 0} (parts : AreParts Spells EndsSo) where
  -- a part behind a name
  pub both_passed : (bytes : List ℕ) {name behind : List ℕ} → Some (name, behind) ≡ operand_at bytes → (result : Result (Bor (List ℕ)) Stop)
      → Passes (IsPartAt Spells EndsSo behind) result → Passes (IsPartAt (SpellsBoth Spells) (EndsBoth EndsSo) bytes) result
  both_passed bytes {name} n (Ok rest) h = ((name, h.0), both_at parts bytes n (Some (h.0, rest.now)) h.1)
  both_passed bytes n (Err stop) h = both_at parts bytes n None h

-- a literal behind a gap, and one that is opened so
pub value_passed : (bytes : List ℕ) {literal : List ℕ} → gap_at bytes ≡ Some literal → (result : Result (Bor (List ℕ)) Stop)
    → Passes (IsLiteralAt levels literal) result → Passes (IsValueAt bytes) result
value_passed bytes g (Ok rest) h = (h.0, value_at bytes g (Some (h.0, rest.now)) h.1)
value_passed bytes g (Err stop) h = value_at bytes g None h

pub array_passed : (levels : ℕ) (inside : List ℕ) (result : Result (Bor (List ℕ)) Stop) → Passes (IsArrayAt levels inside) result
    → Passes (IsLiteralAt levels (91 ∷ inside)) result
array_passed levels inside (Ok rest) h = (h.0, literal_found levels (91 ∷ inside) (Some (h.0, rest.now)) h.1)
array_passed levels inside (Err stop) h = literal_found levels (91 ∷ inside) None h

pub map_passed : (levels : ℕ) (inside : List ℕ) (result : Result (Bor (List ℕ)) Stop) → Passes (IsMapIfAt false levels inside) result
    → Passes (IsLiteralAt levels (123 ∷ inside)) result
map_passed levels inside (Ok rest) h =
    (tree_value (object h.0), literal_found levels (123 ∷ inside) (Some (tree_value (object h.0), rest.now)) (map_found levels inside rest.now h.0 h.1))
map_passed levels inside (Err stop) h = literal_found levels (123 ∷ inside) None (no_map h)

-- texts, with a mark or none, and byte strings
pub quoted_passed : (levels : ℕ) (safe : Bool) (inside : List ℕ) (result : Result (Bor (List ℕ)) Stop) → Passes (IsQuotedAt safe inside) result
    → Passes (IsLiteralAt levels (mark_of safe ++ (34 ∷ inside))) result
quoted_passed levels true inside (Ok rest) h = (h.0, literal_found levels (115 ∷ 34 ∷ inside) (Some (h.0, rest.now)) h.1)
quoted_passed levels true inside (Err stop) h = literal_found levels (115 ∷ 34 ∷ inside) None h
quoted_passed levels false inside (Ok rest) h = (h.0, literal_found levels (34 ∷ inside) (Some (h.0, rest.now)) h.1)
quoted_passed levels false inside (Err stop) h = literal_found levels (34 ∷ inside) None h

pub hex_passed : (levels : ℕ) (inside : List ℕ) (result : Result (Bor (List ℕ)) Stop) → Passes (λ answer. answer ≡ hex_at inside) result
    → Passes (IsLiteralAt levels (120 ∷ 34 ∷ inside)) result
hex_passed levels inside (Ok rest) h = (byte_string h.0, literal_found levels (120 ∷ 34 ∷ inside) (Some (byte_string h.0, rest.now)) (ap bytes_read h.1))
hex_passed levels inside (Err stop) h = literal_found levels (120 ∷ 34 ∷ inside) None (ap bytes_read h)

pub plain_passed : (levels : ℕ) (xs : List ℕ) → ((ys : List ℕ) → xs ≢ (34 ∷ []) ++ ys) → ((ys : List ℕ) → xs ≢ (115 ∷ 34 ∷ []) ++ ys)
    → ((ys : List ℕ) → xs ≢ (120 ∷ 34 ∷ []) ++ ys) → ((ys : List ℕ) → xs ≢ (91 ∷ []) ++ ys) → ((ys : List ℕ) → xs ≢ (123 ∷ []) ++ ys)
    → (result : Result (Bor (List ℕ)) Stop) → Passes (λ answer. answer ≡ plain_at xs) result → Passes (IsLiteralAt levels xs) result
plain_passed levels xs quote safe digits array map (Ok rest) h = (h.0, plain_found levels xs (Some (h.0, rest.now)) quote safe digits array map h.1)
plain_passed levels xs quote safe digits array map (Err stop) h = plain_found levels xs None quote safe digits array map h

pub text_operand_passed : (bytes : List ℕ) {literal : List ℕ} → gap_at bytes ≡ Some literal → (quoted : List ℕ) → literal ≡ 34 ∷ quoted
    → (result : Result (Bor (List ℕ)) Stop) → Passes (IsQuotedAt false quoted) result → Passes (IsTextAt bytes) result
text_operand_passed bytes g quoted q (Ok rest) h =
    (h.1.1, text_at bytes g quoted q (Some (h.1.1, rest.now)) (subst (λ v. IsQuotedAt false quoted (Some (v, rest.now))) h.1.3 h.1))
text_operand_passed bytes g quoted q (Err stop) h = text_at bytes g quoted q None h

-- ---- keys

pub text_key_passed : (texts : Bool) (xs inside : List ℕ) → xs ≡ 34 ∷ inside → (result : Result (Bor (List ℕ)) Stop)
    → Passes (IsQuotedAt false inside) result → Passes (IsKeyIfAt texts xs) result
text_key_passed texts xs inside e (Ok rest) h =
    let used = length h.1.0 + 1 in
    let begins : BeginsWithText inside h.1.1 used = (h.1.0, rest.now, h.1.2, h.1.4, refl) in
    let behind : rest.now ≡ drop used inside = sym (ap (drop used) (h.1.4 ∙ sym (append_assoc h.1.0 (34 ∷ []) rest.now))
    ∙ drop_at (h.1.0 ++ 34 ∷ []) rest.now used (omega (arith, length-append h.1.0 (34 ∷ [])))) in
    let found = text_key_found xs inside h.1.1 rest.now used e begins behind in
    (text_key (owned h.1.1), (found.0, found.1, λ _. refl))
text_key_passed texts xs inside e (Err stop) h = λ utf8 key rest b t. no_text_key xs inside e h utf8 key rest b

pub any_key : {xs rest : List ℕ} {key : KeyForm} → IsKeyAt xs (Some (key, rest)) → IsKeyIfAt false xs (Some (key, rest))
any_key h = (h.0, h.1, λ yes. absurd (cc))

pub no_key : (texts : Bool) {xs : List ℕ} → IsKeyAt xs None → IsKeyIfAt texts xs None
no_key texts h = λ utf8 key rest b t. h utf8 key rest b

-- no text stands where no quote does
pub no_text_there : {xs : List ℕ} → ((ys : List ℕ) → xs ≢ (34 ∷ []) ++ ys) → IsKeyIfAt true xs None
no_text_there {xs} quote = λ utf8 key rest b t stops. opened key b.literal rest b.spells b.spelled (t refl)
  where
    opened : (key : KeyForm) (literal rest : List ℕ) → SpellsKey literal key → xs ≡ literal ++ rest → IsSome (text_in_key key) → ⊥
    opened (text_key (owned t)) literal rest h e some = quote ((h.0 ++ 34 ∷ []) ++ rest) (e ∙ ap (λ l. l ++ rest) h.2)
    opened (text_key (borrowed t)) literal rest h e some = absurd h
    opened (truth_key b) literal rest h e some = cc
    opened (number_key n) literal rest h e some = cc

-- ---- places

-- a text is its own front
pub whole_front : (xs : List ℕ) → take (length xs) xs ≡ xs
whole_front [] = refl
whole_front (x ∷ xs) = ap (λ ys. x ∷ ys) (whole_front xs)
