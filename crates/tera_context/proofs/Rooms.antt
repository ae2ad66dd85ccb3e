-- How much room a map of names needs for what it takes over.
use Rattle.std.specs.Prelude.{◌≡◌, ℕ, zero, suc, ◌+◌, ◌≤◌, ◌<◌, Bool, true, false, cond, not, List, [], ◌∷◌, length}
use Rattle.std.specs.Prelude.{Option, Some, None, Result, Ok, Err, IsOk, OnErr, OnOk, is_ok, is_some, if◌then◌else◌, refl, String}
use Rattle.std.proofs.Common.{sym, ◌∙◌, ap, subst, arith}
use Rattle.std.proofs.lemmas.Bool.{false≢true}
use Rattle.std.specs.Cmp.Lexicographic.{nat_list_cmp_total}
use Rattle.std.specs.FinMap.{contains_key, get, get-insert, insert}
use Rattle.std.specs.List.{AllByRecursion, IsDistinct, filter}
use Rattle.std.specs.Map.{keys_of}
use Rattle.std.specs.Option.{IsSome}
use Rattle.std.specs.String.{string_bytes, string_eq}
use Rattle.std.specs.declared.cmp.PartialEq as eq
use Rattle.std.specs.declared.hash.Hash as hash
use Rattle.std.specs.declared.hash.Hasher as hasher
use Rattle.std.specs.declared.hash.BuildHasher as builder
use Rattle.indexmap.specs.declared.map.entry.Entry.{Entry}
use Rattle.indexmap.specs.declared.map.entry.Entry.TheVariants.{Occupied, Vacant}
use Rattle.indexmap.specs.Entry.{entry_map, entry_value, map_with_value}
use Rattle.indexmap.specs.IndexMap.{spare}
use Rattle.tera_meaning.proofs.StateLaws.{get_set}
use Rattle.tera_meaning.specs.Form.{Form}
use Rattle.tera_meaning.specs.State.{State}
use Rattle.tera_meaning.specs.Step.{ExtendTakes}
use Rattle.tera_context.specs.Context.{new_names, state_of}
use Rattle.tera_context.proofs.Extends.{AreApart}
use Rattle.tera_context.proofs.Names.{tied}

-- a value that is written where its key is takes no room
module _ {K S A H : Type 0} {g : eq.Ghosts K} {h : hash.Ghosts K} {b : builder.Ghosts S H} {w : hasher.Ghosts H} where
  pub entry_room : (e : Entry K Form S A H g h b w) (value : Form) (n : ℕ) (there : Option Form) → entry_value e ≡ there
      → n ≤ spare (entry_map e) → n ≤ spare (map_with_value e value) + 1
      → n ≤ spare (map_with_value e value) + (if is_some there then 0 else 1)
  unfolding map_with_value entry_value
  entry_room (Occupied o) value n None is kept one = one
  entry_room (Occupied o) value n (Some v) is kept one = omega (arith, kept)
  entry_room (Vacant e) value n None is kept one = one
  entry_room (Vacant e) value n (Some v) is kept one = absurd (false≢true (ap is_some is))

-- what succeeds has no error
pub no_error : {X E : Type 0} (r : Result X E) (P : Type 0) → IsOk r → OnErr r P
no_error (Ok x) P h = tt
no_error (Err e) P h = absurd (false≢true h)

-- what holds where it succeeds holds once it has
pub on_success : {X E : Type 0} (r : Result X E) (P : Type 0) → OnOk r P → is_ok r ≡ true → P
on_success (Ok x) P h is = h
on_success (Err e) P h is = absurd (false≢true is)

-- what would succeed is not what has failed
pub on_failure : {X E : Type 0} (r : Result X E) (P Q : Type 0) → (P → IsOk r) → ((P → ⊥) → Q) → OnErr r Q
on_failure (Ok x) P Q goes_on h = tt
on_failure (Err e) P Q goes_on h = h (λ p. false≢true (goes_on p))

-- what there is no room for is something
pub some_wanted : (n room : ℕ) → (n ≤ room → ⊥) → 0 < n
some_wanted zero room none = absurd (none (omega arith))
some_wanted (suc n) room none = omega arith

-- ---- the names that are new

counted : {X : Type 0} (b : Bool) (x : X) (xs : List X) → length (cond (not b) (x ∷ xs) xs) ≡ (if b then 0 else 1) + length xs
counted true x xs = omega arith
counted false x xs = omega arith

less : (b : Bool) (all left room after : ℕ) → all ≡ (if b then 0 else 1) + left → all ≤ room
    → room ≤ after + (if b then 0 else 1) → left ≤ after
less true all left room after is fits one = omega (arith, is, fits, one)
less false all left room after is fits one = omega (arith, is, fits, one)

one_at_most : (b : Bool) → (if b then 0 else 1) ≤ 1
one_at_most true = omega arith
one_at_most false = omega arith

either : (b : Bool) (value : Form) (o : Option Form) → IsSome o → IsSome (cond b (Some value) o)
either true value o is = refl
either false value o is = is

module _ {A : Type 0} (state : State) where
  abbrev is_new : String A × Form → Bool
  is_new p = not (contains_key state (string_bytes p.0))

  -- the first pair, and the others
  pub new_next : (p : String A × Form) (pairs : List (String A × Form))
      → new_names state (p ∷ pairs) ≡ (if contains_key state (string_bytes p.0) then 0 else 1) + new_names state pairs
  new_next p pairs = counted (contains_key state (string_bytes p.0)) p (filter is_new pairs)

  -- no more are new than there are
  pub few_new : (pairs : List (String A × Form)) → new_names state pairs ≤ length pairs
  few_new [] = omega arith
  few_new (p ∷ pairs) =
      let first = new_next p pairs in
      let one = one_at_most (contains_key state (string_bytes p.0)) in
      let rest = few_new pairs in
      omega (arith, first, one, rest)

  pub none_new : (pairs : List (String A × Form)) → length pairs ≡ 0 → new_names state pairs ≡ 0
  none_new [] e = refl
  none_new (p ∷ pairs) e = absurd (omega (arith, e))

  -- where a name is new, the source has it
  found_first : (p : String A × Form) (pairs : List (String A × Form)) (o : Option Form) → get state (string_bytes p.0) ≡ o
      → (contains_key state (string_bytes p.0) ≡ true → ExtendTakes state (state_of pairs))
      → ExtendTakes state (state_of (p ∷ pairs))
  found_first p pairs None e others = (string_bytes p.0, subst IsSome (sym (get_set (state_of pairs) (string_bytes p.0) p.1)) refl, e)
  found_first p pairs (Some v) e others =
      let found = others (ap is_some e) in (
        found.0,
        subst IsSome (sym (get-insert nat_list_cmp_total (state_of pairs) (string_bytes p.0) p.1 found.0)) (either _ p.1 _ found.1),
        found.2,
      )

  pub some_new : (pairs : List (String A × Form)) → 0 < new_names state pairs → ExtendTakes state (state_of pairs)
  some_new [] more = absurd (omega (arith, more))
  some_new (p ∷ pairs) more =
      found_first p pairs (get state (string_bytes p.0)) refl (λ there.
      let first = new_next p pairs ∙ ap (λ b. (if b then 0 else 1) + new_names state pairs) there in
      some_new pairs (omega (arith, more, first)))

-- a name that is kept is no other of the source
module _ {A : Type 0} (state : State) (name : String A) (value : Form) where
  same_new : (left : List (String A × Form)) → AllByRecursion (λ k. string_eq name k ≡ false) (keys_of left)
      → filter (is_new {A = A} (insert state (string_bytes name) value)) left ≡ filter (is_new {A = A} state) left
  same_new [] h = refl
  same_new (p ∷ left) h =
      let found = get-insert nat_list_cmp_total state (string_bytes name) value (string_bytes p.0)
      ∙ ap (λ b. cond b (Some value) (get state (string_bytes p.0))) (tied (string_bytes name) (string_bytes p.0) ∙ h.0) in
      let others = same_new left h.1 in
      λ i. cond (not (is_some (found i))) (p ∷ others i) (others i)

  -- for those that are left there is room
  pub room_left : (left : List (String A × Form)) (room after : ℕ) → AreApart ((name, value) ∷ left)
      → new_names state ((name, value) ∷ left) ≤ room
      → room ≤ after + (if contains_key state (string_bytes name) then 0 else 1)
      → new_names (insert state (string_bytes name) value) left ≤ after
  unfolding IsDistinct
  room_left left room after apart fits one =
      let fewer = less (contains_key state (string_bytes name)) _ _ room after (new_next state (name, value) left) fits one in
      subst (λ n. n ≤ after) (sym (ap length (same_new left apart.0))) fewer

  pub room_first : (left : List (String A × Form)) (room : ℕ) → get state (string_bytes name) ≡ None
      → new_names state ((name, value) ∷ left) ≤ room → 0 < room
  room_first left room absent fits =
      let first = new_next state (name, value) left ∙ ap (λ o. (if is_some o then 0 else 1) + new_names state left) absent in
      omega (arith, fits, first)
