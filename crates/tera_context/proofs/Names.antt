-- What the map of names has is what its state has.
use Rattle.std.specs.Prelude.{◌≡◌, ℕ, cond, List, [], ◌∷◌, Some, None, String, refl}
use Rattle.std.proofs.Common.{sym, ◌∙◌, ap, subst}
use Rattle.std.specs.Option.{IsSome}
use Rattle.std.specs.Cmp.{eq_by_cmp_equiv}
use Rattle.std.specs.Cmp.Lexicographic.{slice_cmp, nat_list_cmp_total}
use Rattle.std.specs.FinMap.{get, find, insert, remove, get-from_entries, get-insert, get-remove}
use Rattle.std.specs.Map.{lookup}
use Rattle.std.specs.Ordering.{nat_cmp, eq_by_cmp}
use Rattle.std.specs.Str.{bytes_eq}
use Rattle.std.specs.String.{string_bytes, string_eq}
use Rattle.std.proofs.lemmas.Map.Text.{is_eq-slice_cmp, is_text, hash_map_updates_text}
use Rattle.indexmap.specs.IndexMap.{IndexMap, UpdatesBy, get_by_text}
use Rattle.tera_meaning.specs.Form.{Form}
use Rattle.tera_meaning.specs.Read.{marked_safe}
use Rattle.tera_meaning.proofs.StateLaws.{same_state}
use Rattle.tera_meaning.specs.Step.{marking}
use Rattle.tera_context.specs.Context.{named, state_of}

find_named : {A : Type 0} (pairs : List (String A × Form)) (bs : List ℕ)
    → find (slice_cmp nat_cmp) bs (named pairs) ≡ lookup (is_text bs) pairs
find_named [] bs = refl
find_named (p ∷ pairs) bs = λ i. cond (is_eq-slice_cmp bs (string_bytes p.0) i) (Some p.1) (find_named pairs bs i)

-- a look-up by bytes
pub get_named : {A : Type 0} (pairs : List (String A × Form)) (bs : List ℕ) → get (state_of pairs) bs ≡ lookup (is_text bs) pairs
get_named pairs bs = get-from_entries nat_list_cmp_total (named pairs) bs ∙ find_named pairs bs

pub tied : (bs cs : List ℕ) → eq_by_cmp (slice_cmp nat_cmp) cs bs ≡ bytes_eq bs cs
tied bs cs = (eq_by_cmp_equiv nat_list_cmp_total).symm cs bs ∙ is_eq-slice_cmp bs cs

-- a change at one name
module _ {A S : Type 0} (old new : IndexMap (String A) Form S) (bs : List ℕ) where
  pub named_insert : (value : Form) → UpdatesBy string_eq (λ k. bytes_eq bs (string_bytes k)) old new (Some value)
      → state_of new.entries ≡ insert (state_of old.entries) bs value
  named_insert value updates = same_state (state_of new.entries) (insert (state_of old.entries) bs value) (λ cs.
      get_named new.entries cs
      ∙ hash_map_updates_text bs old new (Some value) updates cs
      ∙ ap (cond (bytes_eq bs cs) (Some value)) (sym (get_named old.entries cs))
      ∙ ap (λ b. cond b (Some value) (get (state_of old.entries) cs)) (sym (tied bs cs))
      ∙ sym (get-insert nat_list_cmp_total (state_of old.entries) bs value cs))

  -- a name taken away
  pub named_remove : UpdatesBy string_eq (λ k. bytes_eq bs (string_bytes k)) old new None
      → state_of new.entries ≡ remove (state_of old.entries) bs
  named_remove updates = same_state (state_of new.entries) (remove (state_of old.entries) bs) (λ cs.
      get_named new.entries cs
      ∙ hash_map_updates_text bs old new None updates cs
      ∙ ap (cond (bytes_eq bs cs) None) (sym (get_named old.entries cs))
      ∙ ap (λ b. cond b None (get (state_of old.entries) cs)) (sym (tied bs cs))
      ∙ sym (get-remove nat_list_cmp_total (state_of old.entries) bs cs))

  -- a name whose value is marked where it is
  pub named_marked : (value marked : Form) → get_by_text old bs ≡ Some value → marked ≡ marked_safe value
      → (IsSome (get_by_text old bs) → UpdatesBy string_eq (λ k. bytes_eq bs (string_bytes k)) old new (Some marked))
      → state_of new.entries ≡ marking (state_of old.entries) bs (get (state_of old.entries) bs)
  named_marked value marked there is updates =
      named_insert marked (updates (subst IsSome (sym there) refl))
      ∙ ap (insert (state_of old.entries) bs) is
      ∙ ap (marking (state_of old.entries) bs) (sym (get_named old.entries bs ∙ there))

-- and one that isn't there
pub none_marked : {A S : Type 0} (old : IndexMap (String A) Form S) (bs : List ℕ) → get_by_text old bs ≡ None
    → state_of old.entries ≡ marking (state_of old.entries) bs (get (state_of old.entries) bs)
none_marked old bs absent = ap (marking (state_of old.entries) bs) (sym (get_named old.entries bs ∙ absent))
