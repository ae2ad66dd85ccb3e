-- States that are laid out the same stay so, whatever is asked of them.
use Rattle.std.specs.Prelude.{◌≡◌, ℕ, Bool, List, [], ◌∷◌, Option, Some, Result, Ok, refl}
use Rattle.std.proofs.Common.{ap, sym, ◌∙◌, rules}
use Rattle.std.specs.Option.{option_map, unwrap_or}
use Rattle.std.specs.Cmp.Lexicographic.{slice_cmp, nat_list_cmp_total}
use Rattle.std.specs.FinMap.{get as held_at, insert, remove as without, get-insert, get-remove}
use Rattle.tera_report.specs.Refusal.{Refusal, Operator}
use Rattle.tera_meaning.specs.Alike.{LaidOutTheSame, MeanTheSame, IsSettled, found_layout, outcome_layout}
use Rattle.tera_meaning.specs.Answer
use Rattle.tera_meaning.specs.Conversion.{IntegerType}
use Rattle.tera_meaning.specs.Form.{Form}
use Rattle.tera_meaning.specs.Lookup.{seen_by}
use Rattle.tera_meaning.specs.Meaning.{layout, meaning, sorted}
use Rattle.tera_meaning.specs.Outcome.{Outcome, shape}
use Rattle.tera_meaning.specs.Question.{Question, IsAnswered}
use Rattle.tera_meaning.specs.Read.{marked_safe}
use Rattle.tera_meaning.specs.Request.{Request, set, extend, remove, mark_safe, ask, weigh, find, Command}
use Rattle.tera_meaning.specs.Run.{state_after_all}
use Rattle.tera_meaning.specs.Search.{Search, Found, found_at, one_found}
use Rattle.tera_meaning.specs.State.{State, form_at, layout_at, extended}
use Rattle.tera_meaning.specs.Step.{found_or_kept, keeping, leaves, marking_into, state_after, ComesTo, IsOutcome}
use Rattle.tera_meaning.specs.Tree.{undefined}
use Rattle.tera_meaning.specs.Weighing.{Weighing, weighed, truth_told}
use Rattle.tera_meaning.proofs.AlikeLemmas.{asks_the_same, outcome_alike}
use Rattle.tera_meaning.proofs.ExtendLaws.{get_extended}
use Rattle.tera_meaning.proofs.found.Attr
use Rattle.tera_meaning.proofs.found.Item
use Rattle.tera_meaning.proofs.found.Path
use Rattle.tera_meaning.proofs.found.Reverse
use Rattle.tera_meaning.proofs.found.Slice

pub layout_alike : (f g : State) → LaidOutTheSame f g → (name : List ℕ) → layout_at f name ≡ layout_at g name
layout_alike f g h name = search rules

one_laid_out_alike : (r s : Result Form Refusal) → seen_by layout r ≡ seen_by layout s → found_layout (one_found r) ≡ found_layout (one_found s)
one_laid_out_alike r s e = search rules

calculated_laid_out : (operator : Operator) (left right : List ℕ) (f g : State) → LaidOutTheSame f g
    → found_layout (found_at f (Search.calculate operator left right)) ≡ found_layout (found_at g (Search.calculate operator left right))
calculated_laid_out operator left right f g h = search (rules, layout_alike)

negated_laid_out : (name : List ℕ) (f g : State) → LaidOutTheSame f g
    → found_layout (found_at f (Search.negate name)) ≡ found_layout (found_at g (Search.negate name))
negated_laid_out name f g h = search (rules, layout_alike)

read_laid_out : (type : IntegerType) (name : List ℕ) (f g : State) → LaidOutTheSame f g
    → found_layout (found_at f (Search.read type name)) ≡ found_layout (found_at g (Search.read type name))
read_laid_out type name f g h = search (rules, layout_alike)

pub found_laid_out_alike : (call : Search) (f g : State) → LaidOutTheSame f g → found_layout (found_at f call) ≡ found_layout (found_at g call)
found_laid_out_alike (Search.get name) f g h = ap Ok (h name)
found_laid_out_alike (Search.path name p) f g h = ap Ok (Path.by_layout p _ _ (layout_alike f g h name))
found_laid_out_alike (Search.attr name t) f g h = ap Ok (Attr.by_layout t _ _ (layout_alike f g h name))
found_laid_out_alike (Search.item name i) f g h =
    one_laid_out_alike _ _ (Item.by_layout _ (form_at f i) _ (form_at g i) (layout_alike f g h name) (ap sorted (layout_alike f g h i)))
found_laid_out_alike (Search.slice name start end step) f g h =
    one_laid_out_alike _ _ (Slice.by_layout start end step _ (form_at g name) (layout_alike f g h name))
found_laid_out_alike (Search.reverse name) f g h = one_laid_out_alike _ _ (Reverse.by_layout _ (form_at g name) (layout_alike f g h name))
found_laid_out_alike (Search.calculate operator left right) f g h = calculated_laid_out operator left right f g h
found_laid_out_alike (Search.negate name) f g h = negated_laid_out name f g h
found_laid_out_alike (Search.read type name) f g h = read_laid_out type name f g h

some_laid_out : (v w : Form) → option_map layout (Some v) ≡ option_map layout (Some w) → layout v ≡ layout w
some_laid_out v w e = ap (λ o. unwrap_or o undefined) e

layout_marked : (value : Form) → layout (marked_safe value) ≡ layout value
layout_marked v = search rules

set_laid_out : (f g : State) (name : List ℕ) (v w : Form) → LaidOutTheSame f g → layout v ≡ layout w
    → LaidOutTheSame (insert f name v) (insert g name w)
set_laid_out f g name v w h values other = search (rules, get-insert, nat_list_cmp_total, slice_cmp, held_at)

removed_laid_out : (f g : State) (name : List ℕ) → LaidOutTheSame f g → LaidOutTheSame (without f name) (without g name)
removed_laid_out f g name h other = search (rules, get-remove, nat_list_cmp_total, slice_cmp, held_at)

extended_laid_out : (f g source : State) → LaidOutTheSame f g → LaidOutTheSame (extended f source) (extended g source)
extended_laid_out f g source h name = search (rules, get_extended, held_at)

module _ (f g : State) (h : LaidOutTheSame f g) where
  kept_laid_out : (into : Option (List ℕ)) (found also : Found) → found_layout found ≡ found_layout also
      → LaidOutTheSame (keeping f into found) (keeping g into also)
  kept_laid_out into found also e = search (rules, set_laid_out, some_laid_out)

  marked_laid_out : (name : List ℕ) (into : Option (List ℕ))
      → LaidOutTheSame (marking_into f name into) (marking_into g name into)
  marked_laid_out name x1 = search (rules, held_at, set_laid_out, layout_marked, layout_alike)

  left_laid_out : (request : Request) (into : Option (List ℕ)) → LaidOutTheSame (leaves f request into) (leaves g request into)
  left_laid_out (set name value) into = search (rules, set_laid_out)
  left_laid_out (extend source) into = extended_laid_out f g source h
  left_laid_out (remove name) into = removed_laid_out f g name h
  left_laid_out (mark_safe name) into = marked_laid_out name into
  left_laid_out (find search) into = kept_laid_out into (found_at f search) (found_at g search) (found_laid_out_alike search f g h)
  left_laid_out v into = h

  pub states_laid_out : (command : Command) → LaidOutTheSame (state_after f command) (state_after g command)
  states_laid_out command = left_laid_out command.request command.into

pub all_states_laid_out : (f g : State) (commands : List Command) → LaidOutTheSame f g
    → LaidOutTheSame (state_after_all f commands) (state_after_all g commands)
all_states_laid_out f g [] h = h
all_states_laid_out f g (command ∷ commands) h =
    all_states_laid_out (state_after f command) (state_after g command) commands (states_laid_out f g h command)

one_meaning : (o p : Option Form) → option_map layout o ≡ option_map layout p → option_map meaning o ≡ option_map meaning p
one_meaning x0 x1 e = search rules

pub states_mean_the_same : (f g : State) → LaidOutTheSame f g → MeanTheSame f g
states_mean_the_same f g h name = one_meaning (held_at f name) (held_at g name) (h name)

pub one_laid_out : (state : State) (name : List ℕ) (v w : Form) → layout v ≡ layout w
    → LaidOutTheSame (insert state name v) (insert state name w)
one_laid_out state name v w e = set_laid_out state state name v w (λ other. refl) e

pub ruleset laws = (states_laid_out, all_states_laid_out, layout_alike, states_mean_the_same, one_laid_out)

-- ---- outcomes

-- two outcomes that are a and b are laid out the same where these are
both : {o p a b : Outcome} → o ≡ a → p ≡ b → outcome_layout a ≡ outcome_layout b → outcome_layout o ≡ outcome_layout p
both e f s = ap outcome_layout e ∙ s ∙ sym (ap outcome_layout f)

kept_layout : (into : Option (List ℕ)) (found also : Found) → found_layout found ≡ found_layout also
    → outcome_layout (found_or_kept into found) ≡ outcome_layout (found_or_kept into also)
kept_layout into found also e = search rules

-- what is asked comes to no value that is found, so its layout is its shape
asked_layout : (question : Question) (held : Option Form) (o : Outcome) → IsAnswered question held o → outcome_layout o ≡ shape o
asked_layout Question.has held o e = ap outcome_layout e ∙ sym (ap shape e)
asked_layout Question.truthy held o e = ap outcome_layout e ∙ sym (ap shape e)
asked_layout Question.is_safe held o e = ap outcome_layout e ∙ sym (ap shape e)
asked_layout Question.len held o e = ap outcome_layout e ∙ sym (ap shape e)
asked_layout Question.kind held o e = ap outcome_layout e ∙ sym (ap shape e)
asked_layout Question.print held o (t, prints, e) = ap outcome_layout e ∙ sym (ap shape e)
asked_layout Question.escape held o (t, v, prints, spells, e) = ap outcome_layout e ∙ sym (ap shape e)
asked_layout Question.fields held o e = ap outcome_layout e ∙ sym (ap shape e)
asked_layout Question.walk held o e = ap outcome_layout e ∙ sym (ap shape e)

truth_layout : (r : Result Bool Refusal) → outcome_layout (truth_told r) ≡ shape (truth_told r)
truth_layout r = search rules

weighed_layout : (weighing : Weighing) (v w : Form) → outcome_layout (weighed weighing v w) ≡ shape (weighed weighing v w)
weighed_layout weighing v w = search (rules, truth_layout)

module _ (f g : State) (h : LaidOutTheSame f g) where
  -- what is asked or weighed
  as_shaped : (command : Command) (o p : Outcome) → outcome_layout o ≡ shape o → outcome_layout p ≡ shape p → IsOutcome f command o
      → IsOutcome g command p → IsSettled f g command.request → outcome_layout o ≡ outcome_layout p
  as_shaped command o p i j e d s =
      i ∙ outcome_alike f g (states_mean_the_same f g h) command command o p (asks_the_same command) e d s ∙ sym j

  comes_laid_out : (request : Request) (into : Option (List ℕ)) (o p : Outcome) → ComesTo f request into o → ComesTo g request into p
      → IsSettled f g request → outcome_layout o ≡ outcome_layout p
  comes_laid_out (remove name) into o p e d s = both e d (λ i. Ok (Answer.found (h name i)))
  comes_laid_out (ask question name) into o p e d s =
      as_shaped (record { request = ask question name; into = into }) o p
      (asked_layout question (held_at f name) o e) (asked_layout question (held_at g name) p d) e d s
  comes_laid_out (weigh weighing left right) into o p e d s =
      as_shaped (record { request = weigh weighing left right; into = into }) o p
      (ap outcome_layout e ∙ weighed_layout weighing (form_at f left) (form_at f right) ∙ sym (ap shape e))
      (ap outcome_layout d ∙ weighed_layout weighing (form_at g left) (form_at g right) ∙ sym (ap shape d)) e d s
  comes_laid_out (find search) into o p e d s =
      both e d (kept_layout into (found_at f search) (found_at g search) (found_laid_out_alike search f g h))
  comes_laid_out v into o p e d s = both e d refl

  pub outcome_laid_out : (command : Command) (o p : Outcome) → IsOutcome f command o → IsOutcome g command p
      → IsSettled f g command.request → outcome_layout o ≡ outcome_layout p
  outcome_laid_out command o p e d s = comes_laid_out command.request command.into o p e d s

pub ruleset outcome_laws = (found_laid_out_alike, outcome_laid_out)
