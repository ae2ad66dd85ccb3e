-- What is held stays well made.
use Rattle.std.specs.Prelude.{◌≡◌, ℕ, ℤ, pos, negsuc, Bool, true, false, cond, IfSome, IsSome, List, [], ◌∷◌, Option, IfOk}
use Rattle.std.proofs.Common.{sym, subst, arith, rules}
use Rattle.std.specs.Ordering.{nat_cmp, eq_by_cmp}
use Rattle.std.specs.Cmp.{Equal-is}
use Rattle.std.specs.Cmp.Lexicographic.{slice_cmp, nat_list_cmp_total}
use Rattle.std.specs.FinMap.{empty, get as held_at, insert, remove as without, get-insert, get-remove}
use Rattle.std.specs.List.{AllByRecursion, IsDistinct}
use Rattle.std.specs.Map.{keys_of}
use Rattle.std.specs.Str.{IsUtf8}
use Rattle.tera_meaning.specs.Form.{Form, MarkedText}
use Rattle.tera_meaning.specs.Integer.{Integer, IntegerKind, u64, i64, u128, i128, IsOfKind, IsWide}
use Rattle.tera_meaning.specs.KeyMeaning.{KeyForm, key_meaning, key_order}
use Rattle.tera_meaning.specs.Meaning.{layout, meaning}
use Rattle.tera_meaning.specs.Outcome.{Outcome}
use Rattle.tera_meaning.specs.Pairs.{HasDistinctKeys, key_form_order}
use Rattle.tera_meaning.specs.Read.{marked_safe}
use Rattle.tera_meaning.specs.Run.{IsRun, state_after_all}
use Rattle.tera_meaning.specs.State.{State, meaning_at, extended, IsProperBeginning}
use Rattle.tera_meaning.proofs.MeaningLaws.{layout_items, layout_members}
use Rattle.tera_meaning.proofs.SortedLemmas.{sorted_well, exact_together}
use Rattle.tera_meaning.proofs.StateLaws.{held_empty, name_exact}
use Rattle.tera_meaning.specs.Search.{Found, found_at}
use Rattle.tera_meaning.proofs.Owed.{IsHeldWell, form_at_well}
use Rattle.tera_meaning.proofs.found.{found_well}
use Rattle.tera_meaning.proofs.ExtendLaws.{get_extended, beginning_held}
use Rattle.tera_meaning.specs.Request.{Command, Request, set, extend, remove, mark_safe, find}
use Rattle.tera_meaning.specs.Step.{keeping, marking_into, leaves, LeavesInWant, IsStep, state_after}
use Rattle.tera_meaning.specs.Tree.{Items, Members, number, text, bytes, array, object, no_items, item, no_members, member, members_list}
use Rattle.tera_meaning.specs.WellMade.{IsWellMade, IsWellMadeKey, AreWellMade, AreWellMadeMembers, IsWellMadeLayout, IsWellMadeMeaning, IsWellMadeKeyMeaning}
use Rattle.tera_meaning.specs.WellMade.{AreMadeOf, ArePairsOf, IsWellMadeState, BringsWellMade, AllBringWellMade}
use Rattle.tera_meaning.proofs.OrderLaws.{same_is}
use Rattle.tera_meaning.proofs.MeantLemmas.{meant, laid_out}

pub marked_well : (value : Form) → IsWellMade value → IsWellMade (marked_safe value)
marked_well v h = search rules

pub empty_well : IsWellMadeState empty
empty_well name = search (rules, held_empty)

module _ (state : State) (h : IsWellMadeState state) where
  pub held_name_well : (name : List ℕ) → IsSome (held_at state name) → IsUtf8 name
  held_name_well name = search rules

  chosen_well : (name other : List ℕ) (o : Option Form) (b : Bool) → eq_by_cmp (slice_cmp nat_cmp) other name ≡ b
      → IsHeldWell name o → IsHeldWell other (cond b o (held_at state other))
  chosen_well name other o true e well =
      subst (λ n. IsHeldWell n o) (sym (name_exact other name ((Equal-is (slice_cmp nat_cmp other name)).0 e))) well
  chosen_well name other o false e well = h other

  set_well : (name : List ℕ) (value : Form) → IsUtf8 name → IsWellMade value → IsWellMadeState (insert state name value)
  set_well name value utf8 well other = search (rules, get-insert, nat_list_cmp_total, chosen_well, slice_cmp)

  removed_well : (name : List ℕ) → IsWellMadeState (without state name)
  removed_well name other = search (rules, get-remove, nat_list_cmp_total, slice_cmp)

  pub extended_well : (source : State) → IsWellMadeState source → IsWellMadeState (extended state source)
  extended_well source brought name = search (rules, IsHeldWell, get_extended, held_at)

  kept_well : (into : Option (List ℕ)) (found : Found) → IfSome into IsUtf8 → IfOk found (λ o. IfSome o IsWellMade)
      → IsWellMadeState (keeping state into found)
  kept_well into found utf8 well = search (rules, set_well)

  marked_into_well : (name : List ℕ) (into : Option (List ℕ)) → IfSome into IsUtf8
      → IsWellMadeState (marking_into state name into)
  marked_into_well name x1 utf8 = search (rules, held_at, set_well, marked_well, form_at_well)

  left_well : (request : Request) (into : Option (List ℕ)) → BringsWellMade request → IfSome into IsUtf8
      → IsWellMadeState (leaves state request into)
  left_well (set name value) into well utf8 = set_well name value well.0 well.1
  left_well (extend source) into well utf8 = extended_well source well
  left_well (remove name) into well utf8 = removed_well name
  left_well (mark_safe name) into well utf8 = marked_into_well name into utf8
  left_well (find search) into well utf8 = kept_well into (found_at state search) utf8 (found_well search state h)
  left_well v into well utf8 = h

pub all_left_well : (state : State) (commands : List Command) → IsWellMadeState state → AllBringWellMade commands
    → IsWellMadeState (state_after_all state commands)
all_left_well state [] h brought = h
all_left_well state (command ∷ commands) h brought =
    all_left_well (state_after state command) commands (left_well state h command.request command.into brought.0.0 brought.0.1) brought.1

-- what begins a source that is well made is too
part_held_well : (name : List ℕ) (o p : Option Form) → (IsSome o → p ≡ o) → IsHeldWell name p → IsHeldWell name o
part_held_well name x1 p same well = search rules

beginning_well : (part whole : State) → IsProperBeginning part whole → IsWellMadeState whole → IsWellMadeState part
beginning_well part whole is h name =
    part_held_well name (held_at part name) (held_at whole name) (beginning_held part whole name is) (h name)

-- and so is what want of memory leaves
want_well : (old new : State) (request : Request) → IsWellMadeState old → BringsWellMade request
    → LeavesInWant old request new → IsWellMadeState new
want_well old new (extend source) h brings (part, is, left) =
    subst IsWellMadeState (sym left) (extended_well old h part (beginning_well part source is brings))
want_well old new v h brings left = subst IsWellMadeState (sym left) h

step_well : (old : State) (command : Command) (outcome : Outcome) (new : State) → IsWellMadeState old
    → BringsWellMade command.request → IfSome command.into IsUtf8 → IsStep old command outcome new → IsWellMadeState new
step_well old command outcome new h brings utf8 x7 = search (rules, left_well, want_well)

pub run_well : (old : State) (commands : List Command) (outcomes : List Outcome) (new : State) → IsWellMadeState old
    → AllBringWellMade commands → IsRun old commands outcomes new → IsWellMadeState new
run_well old (command ∷ commands) (outcome ∷ outcomes) new h brought (mid, step, run) =
    search (rules, step_well, (run_well mid commands outcomes new (step_well old command outcome mid h brought.0.0 brought.0.1 step) brought.1 run))
run_well old commands outcomes new h brought run = search rules

-- ---- what well-made forms mean

wide : (kind : IntegerKind) (z : ℤ) → IsOfKind kind z → IsWide z
wide u64 (pos n) h = omega (arith, h)
wide u64 (negsuc n) h = absurd h
wide i64 (pos n) h = omega (arith, h)
wide i64 (negsuc n) h = omega (arith, h)
wide u128 (pos n) h = h
wide u128 (negsuc n) h = absurd h
wide i128 (pos n) h = omega (arith, h)
wide i128 (negsuc n) h = h

apart_laid_out : (k : KeyForm) (ps : Members Integer MarkedText KeyForm)
    → AllByRecursion (λ l. eq_by_cmp key_form_order k l ≡ false) (keys_of (members_list ps))
    → AllByRecursion (λ l. eq_by_cmp key_order (key_meaning k) l ≡ false) (keys_of (members_list (layout_members ps)))
apart_laid_out k no_members h = tt
apart_laid_out k (member l x ps) h = (h.0, apart_laid_out k ps h.1)

laid_out_apart : (ps : Members Integer MarkedText KeyForm) → HasDistinctKeys key_form_order (members_list ps)
    → HasDistinctKeys key_order (members_list (layout_members ps))
unfolding IsDistinct
laid_out_apart no_members h = tt
laid_out_apart (member k x ps) h = (apart_laid_out k ps h.0, laid_out_apart ps h.1)

key_well : (k : KeyForm) → IsWellMadeKey k → IsWellMadeKeyMeaning (key_meaning k)
key_well x0 h = search rules

mutual
  pub layout_well : (value : Form) → IsWellMade value → IsWellMadeLayout (layout value)
  layout_well (number n) h = wide n.kind n.value h
  layout_well (text t) h = h
  layout_well (bytes bs) h = h
  layout_well (array xs) h = layouts_well xs h
  layout_well (object ps) h = (laid_out_apart ps h.0, pairs_well ps h.1)
  layout_well v h = tt

  layouts_well : (xs : Items Integer MarkedText KeyForm) → AreWellMade xs → AreMadeOf (HasDistinctKeys key_order) (layout_items xs)
  layouts_well no_items h = tt
  layouts_well (item x xs) h = (layout_well x h.0, layouts_well xs h.1)

  pairs_well : (ps : Members Integer MarkedText KeyForm) → AreWellMadeMembers ps → ArePairsOf (HasDistinctKeys key_order) (layout_members ps)
  pairs_well no_members h = tt
  pairs_well (member k x ps) h = (key_well k h.0, layout_well x h.1, pairs_well ps h.2)

pub meaning_well : (value : Form) → IsWellMade value → IsWellMadeMeaning (meaning value)
meaning_well value h = sorted_well (layout value) (layout_well value h)

pub meaning_at_well : (state : State) (name : List ℕ) → IsWellMadeState state → IsWellMadeMeaning (meaning_at state name)
meaning_at_well state name h = search (rules, meaning_well)

pub ruleset exact = (same_is, exact_together, layout_well)

pub ruleset laws = (empty_well, all_left_well, run_well, meaning_well, meant, meaning_at_well, layout_well, laid_out)
