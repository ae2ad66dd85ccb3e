-- States answer alike exactly where they mean the same, and others are told apart.
use Rattle.std.specs.Prelude.{◌≡◌, ◌≢◌, ◌↔◌, ◌⊎◌, ℕ, suc, length, Bool, true, ◌||◌, List, [], ◌∷◌, Option, Some, None, Ok, is_some, IsSome, refl}
use Rattle.std.proofs.Common.{sym, ◌∙◌, ap, arith, inl, inr, rules}
use Rattle.std.specs.List.{AllByRecursion, list_any}
use Rattle.std.specs.Option.{option_map, unwrap_or}
use Rattle.std.specs.Ordering.{nat_cmp, eq_by_cmp}
use Rattle.std.specs.Cmp.Lexicographic.{slice_cmp}
use Rattle.std.specs.FinMap.{get as held_at, insert, keys, contains_key-keys}
use Rattle.std.specs.Str.{IsUtf8}
use Rattle.std.proofs.lemmas.Bool.{true≢false}
use Rattle.std.proofs.lemmas.Str.{IsUtf8-append, IsUtf8-from_ascii}
use Rattle.std.proofs.lemmas.Str.Ascii.{IsAscii-nil, IsAscii-cons}
use Rattle.tera_meaning.specs.Form.{Form}
use Rattle.tera_meaning.specs.Meaning.{meaning}
use Rattle.tera_meaning.specs.Order.{same}
use Rattle.tera_meaning.specs.State.{State, form_at, meaning_at}
use Rattle.tera_meaning.specs.Answer
use Rattle.tera_meaning.specs.Outcome.{Outcome}
use Rattle.tera_meaning.specs.Request.{Command}
use Rattle.tera_meaning.specs.Run.{AreOutcomes}
use Rattle.tera_meaning.proofs.OrderLaws.{same_is, same_equivalence}
use Rattle.tera_meaning.proofs.StateLaws.{meaning_set, meaning_other, name_exact}
use Rattle.tera_meaning.specs.Alike.{meaning_held, MeanTheSame, AreAlike, AnswerAlike, AreToldApartBy, RunsAreToldApart, probe}
use Rattle.tera_meaning.proofs.AlikeLemmas.{all_outcomes_alike, all_ask_the_same}
use Rattle.tera_meaning.specs.Tree.{undefined}
use Rattle.tera_meaning.specs.WellMade.{IsWellMadeState, AllBringWellMade}
use Rattle.tera_meaning.proofs.WellMadeLemmas.{held_name_well}
use Rattle.tera_meaning.proofs.Owed.{form_at_well}

held_one : (o p : Option Form) → is_some o ≡ is_some p → meaning (unwrap_or o undefined) ≡ meaning (unwrap_or p undefined)
    → option_map meaning o ≡ option_map meaning p
held_one o p s e = search rules

not_longer : (name : List ℕ) → name ≢ 0 ∷ name
not_longer name e = let one : length name ≡ suc (length name) = ap length e in omega arith

-- whether a name means what a value means, as a probe asks it
probe_equal : State → List ℕ → Form → Bool
probe_equal state name value =
    same (meaning_at (insert state (0 ∷ name) value) name) (meaning_at (insert state (0 ∷ name) value) (0 ∷ name))

probed : (state : State) (name : List ℕ) (value : Form)
    → probe_equal state name value ≡ same (meaning_at state name) (meaning value)
unfolding probe_equal
probed state name value = search (rules, meaning_other, not_longer, meaning_set)

module _ (f g : State) (name : List ℕ) where
  by_truths : is_some (held_at f name) ≡ is_some (held_at g name)
      → probe_equal f name (form_at f name) ≡ probe_equal g name (form_at f name)
      → meaning_held f name ≡ meaning_held g name
  by_truths s e =
      let is : same (meaning_at g name) (meaning_at f name) ≡ true = sym (probed g name (form_at f name)) ∙ sym e ∙ probed f name (form_at f name)
      ∙ same_equivalence.refl (meaning_at f name) in
      held_one (held_at f name) (held_at g name) s (sym ((same_is (meaning_at g name) (meaning_at f name)).0 is))

  -- states that answer the probe with a name's own value alike hold the same meaning at the name
  pub by_answers : (os ps : List Outcome) → AreOutcomes f (probe name (form_at f name)) os
      → AreOutcomes g (probe name (form_at f name)) ps → AreAlike f g (probe name (form_at f name)) (probe name (form_at f name)) os ps
      → meaning_held f name ≡ meaning_held g name
  unfolding probe_equal
  by_answers x0 ps e i s = search (rules, by_truths, held_at, probe_equal)

  probe_answers : (state : State) → List Outcome
  probe_answers state =
      Ok (Answer.truth (is_some (held_at state name))) ∷ Ok Answer.done ∷ Ok (Answer.truth (probe_equal state name (form_at f name))) ∷ []

  probe_answered : (state : State) → AreOutcomes state (probe name (form_at f name)) (probe_answers state)
  unfolding probe_answers probe_equal
  probe_answered state = search rules

  pub by_alike : AnswerAlike f g → meaning_held f name ≡ meaning_held g name
  by_alike alike =
      by_answers (probe_answers f) (probe_answers g) (probe_answered f) (probe_answered g)
      (alike (probe name (form_at f name)) (probe name (form_at f name)) (probe_answers f) (probe_answers g) (all_ask_the_same (probe name (form_at f name)))
      (probe_answered f) (probe_answered g))

-- states answer alike exactly where they mean the same
pub alike_exactly : (f g : State) → MeanTheSame f g ↔ AnswerAlike f g
alike_exactly f g = search (rules, all_outcomes_alike, by_alike)

-- at a name where they mean different things
pub apart_at : (f g : State) (name : List ℕ) → meaning_held f name ≢ meaning_held g name
    → AreToldApartBy (probe name (form_at f name)) f g
apart_at f g name n os ps e i s = n (by_answers f g name os ps e i s)

pub runs_apart_at : (f g : State) (name : List ℕ) → meaning_held f name ≢ meaning_held g name
    → RunsAreToldApart (probe name (form_at f name)) f g
runs_apart_at f g name n os ps f' g' run other = search (rules, apart_at)

-- where the states are well made the commands that tell them apart bring what is
one_holds : (o p : Option Form) → option_map meaning o ≢ option_map meaning p → IsSome o ⊎ IsSome p
one_holds x0 p n = search rules

utf8_of_one : (f g : State) (name : List ℕ) → IsWellMadeState f → IsWellMadeState g
    → IsSome (held_at f name) ⊎ IsSome (held_at g name) → IsUtf8 name
utf8_of_one f g name h k (inl is) = held_name_well f h name is
utf8_of_one f g name h k (inr is) = held_name_well g k name is

pub probe_brings : (f g : State) (name : List ℕ) → IsWellMadeState f → IsWellMadeState g
    → meaning_held f name ≢ meaning_held g name
    → IsUtf8 name × AllBringWellMade (probe name (form_at f name))
probe_brings f g name h k n =
    let utf8 : IsUtf8 name = utf8_of_one f g name h k (one_holds (held_at f name) (held_at g name) n) in
    let other : IsUtf8 (0 ∷ name) = IsUtf8-append (0 ∷ []) name (IsUtf8-from_ascii (0 ∷ []) (IsAscii-cons 0 [] (omega arith) IsAscii-nil)) utf8 in
    (utf8, ((tt, tt), (((other, form_at_well f h name), tt), ((tt, tt), tt))))

decided : (b : Bool) (v w : Form) → same (meaning v) (meaning w) ≡ b
    → (option_map meaning (Some v) ≡ option_map meaning (Some w)) ⊎ (option_map meaning (Some v) ≢ option_map meaning (Some w))
decided x0 v w e = search (rules, same_is, true≢false)

held_decided : (o p : Option Form)
    → (option_map meaning o ≡ option_map meaning p) ⊎ (option_map meaning o ≢ option_map meaning p)
held_decided None None = inl refl
held_decided (Some v) (Some w) = decided (same (meaning v) (meaning w)) v w refl
held_decided None (Some w) = inr (λ e. cc)
held_decided (Some v) None = inr (λ e. cc)

module _ (f g : State) where
  Agree : List ℕ → Type 0
  Agree name = meaning_held f name ≡ meaning_held g name

  Differ : Type 0
  Differ = (name : List ℕ) × (meaning_held f name ≢ meaning_held g name)

  more_agree : (name : List ℕ) (names : List (List ℕ))
      → (meaning_held f name ≡ meaning_held g name) ⊎ (meaning_held f name ≢ meaning_held g name)
      → Differ ⊎ AllByRecursion Agree names → Differ ⊎ AllByRecursion Agree (name ∷ names)
  unfolding Agree Differ
  more_agree name names x2 rest = search rules

  agree_or_differ : (names : List (List ℕ)) → Differ ⊎ AllByRecursion Agree names
  agree_or_differ [] = inr tt
  agree_or_differ (name ∷ names) = search (rules, more_agree, held_decided, held_at, (agree_or_differ names))

  agree_at : (name k : List ℕ) (ks : List (List ℕ)) (b : Bool) → eq_by_cmp (slice_cmp nat_cmp) name k ≡ b
      → (b || list_any (eq_by_cmp (slice_cmp nat_cmp) name) ks) ≡ true
      → (list_any (eq_by_cmp (slice_cmp nat_cmp) name) ks ≡ true → Agree name) → Agree k → Agree name
  agree_at name k ks x3 e h rest agree = search (rules, name_exact, slice_cmp)

  agree_among : (name : List ℕ) (ks : List (List ℕ)) → AllByRecursion Agree ks
      → list_any (eq_by_cmp (slice_cmp nat_cmp) name) ks ≡ true → Agree name
  agree_among name [] all h = cc
  agree_among name (k ∷ ks) all h = search (rules, agree_at, slice_cmp, (agree_among name ks all.1))

  agree_held : (name : List ℕ) (o p : Option Form) → held_at f name ≡ o → held_at g name ≡ p
      → (is_some o ≡ true → Agree name) → (is_some p ≡ true → Agree name) → Agree name
  unfolding Agree
  agree_held name x1 p d e one other = search rules

  agree_everywhere : AllByRecursion Agree (keys f) → AllByRecursion Agree (keys g) → MeanTheSame f g
  unfolding Agree
  agree_everywhere all also name = search (rules, agree_held, agree_among, keys, contains_key-keys)

  told : (MeanTheSame f g → ⊥) → Differ ⊎ AllByRecursion Agree (keys f) → Differ ⊎ AllByRecursion Agree (keys g) → Differ
  told n (inl d) also = d
  told n (inr all) (inl d) = d
  told n (inr all) (inr also) = absurd (n (agree_everywhere all also))

  differ : (MeanTheSame f g → ⊥) → (name : List ℕ) × (meaning_held f name ≢ meaning_held g name)
  unfolding Differ
  differ n = search (rules, told, agree_or_differ)

  -- states of unequal meaning are told apart by some commands
  pub told_apart : (MeanTheSame f g → ⊥) → (commands : List Command) × AreToldApartBy commands f g
  told_apart n = let d = differ n in (probe d.0 (form_at f d.0), apart_at f g d.0 d.1)

  -- and in runs, by such as bring what is well made
  pub runs_told_apart : IsWellMadeState f → IsWellMadeState g → (MeanTheSame f g → ⊥)
      → (name : List ℕ) × IsUtf8 name × AllBringWellMade (probe name (form_at f name)) × RunsAreToldApart (probe name (form_at f name)) f g
  runs_told_apart h k n =
      let d = differ n in
      let brings = probe_brings f g d.0 h k d.1 in
      (d.0, brings.0, brings.1, runs_apart_at f g d.0 d.1)

pub ruleset laws = (apart_at, told_apart, runs_apart_at, runs_told_apart)
