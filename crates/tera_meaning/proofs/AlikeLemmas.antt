-- Answers depend on meanings alone.
use Rattle.tera_meaning.proofs.ReadLemmas.{fields_by_meaning, shown_by_layout}
use Rattle.std.specs.Prelude.{◌≡◌, ℕ, length, Bool, List, [], ◌∷◌, Option, Some, Result, Ok, is_some, refl}
use Rattle.std.proofs.Common.{sym, ◌∙◌, ap, subst, rules}
use Rattle.std.specs.Option.{option_map, unwrap_or}
use Rattle.std.specs.Cmp.Lexicographic.{slice_cmp, nat_list_cmp_total}
use Rattle.std.specs.FinMap.{get as held_at, insert, remove as without, get-insert, get-remove}
use Rattle.tera_report.specs.Escaping.{Spells}
use Rattle.tera_report.specs.Refusal.{Refusal}
use Rattle.tera_report.proofs.EscapeLaws.{one_spelling_each}
use Rattle.tera_meaning.specs.Form.{Form}
use Rattle.tera_meaning.specs.Meaning.{layout, meaning}
use Rattle.tera_meaning.proofs.QuotedLaws.{alone_alike}
use Rattle.tera_meaning.specs.Read.{marked_safe, size_in}
use Rattle.tera_meaning.specs.State.{State, read}
use Rattle.tera_meaning.specs.Alike.{MeanTheSame, RequestTheSame, AskTheSame, AllAskTheSame, IsSettled, AreAlike}
use Rattle.tera_meaning.specs.Answer
use Rattle.tera_meaning.specs.Search.{Found, found_at}
use Rattle.tera_meaning.specs.Lookup.{seen_by}
use Rattle.tera_meaning.proofs.ContainsLemmas.{holds_by_meaning}
use Rattle.tera_meaning.proofs.Owed.{found_shape, read_alike, meaning_alike}
use Rattle.tera_meaning.proofs.found.{found_alike}
use Rattle.tera_meaning.specs.Outcome.{Outcome, shape}
use Rattle.tera_meaning.specs.Question.{Question, IsAnswered, IsSettledAnswer}
use Rattle.tera_meaning.proofs.ExtendLaws.{extended_alike}
use Rattle.tera_meaning.specs.Request.{Request, set, extend, remove, mark_safe, ask, weigh, find, Command}
use Rattle.tera_meaning.specs.Run.{AreOutcomes, state_after_all}
use Rattle.tera_meaning.specs.Step.{found_or_kept, keeping, marking_into, ComesTo, IsOutcome, leaves, state_after}
use Rattle.tera_meaning.specs.Tree.{undefined}
use Rattle.tera_meaning.specs.Weighing.{Weighing, weighed, truth_told}

-- marking changes no meaning
pub meaning_marked : (value : Form) → meaning (marked_safe value) ≡ meaning value
meaning_marked v = search rules

pub some_one : (v w : Form) → option_map meaning (Some v) ≡ option_map meaning (Some w) → meaning v ≡ meaning w
some_one v w e = ap (λ o. unwrap_or o undefined) e

held_alike : (o p : Option Form) → option_map meaning o ≡ option_map meaning p → is_some o ≡ is_some p
held_alike o p e = search rules

kept_shape : (into : Option (List ℕ)) (found also : Found) → found_shape found ≡ found_shape also
    → shape (found_or_kept into found) ≡ shape (found_or_kept into also)
kept_shape into found also e = search rules

pub word_alike : (v w s t : List ℕ) → s ≡ t → Spells v s → Spells w t → v ≡ w
word_alike v w s t e p q = one_spelling_each v w t (subst (Spells v) e p) q

-- two outcomes that are a and b are alike where these are
both : {o p a b : Outcome} → o ≡ a → p ≡ b → shape a ≡ shape b → shape o ≡ shape p
both e f s = ap shape e ∙ s ∙ sym (ap shape f)

-- what is asked of values of one meaning
asked_alike : (question : Question) (held also : Option Form) (o p : Outcome) → option_map meaning held ≡ option_map meaning also
    → IsAnswered question held o → IsAnswered question also p → IsSettledAnswer question (layout (read held)) (layout (read also))
    → shape o ≡ shape p
asked_alike Question.has held also o p h e d s = both e d (λ i. Ok (Answer.truth (held_alike held also h i)))
asked_alike Question.truthy held also o p h e d s = search (rules, both, read_alike)
asked_alike Question.len held also o p h e d s = both e d (λ i. Ok (Answer.size (size_in (read_alike held also h i))))
asked_alike Question.print held also o p h (t, prints, e) (u, again, d) (s, exact) =
    both e d (ap (λ text. Ok (Answer.text text)) (alone_alike _ _ t u s exact prints again))
asked_alike Question.escape held also o p h (t, v, prints, spells, e) (u, w, again, spelled, d) (s, exact) =
    both e d (ap (λ text. Ok (Answer.text text)) (word_alike v w t u (alone_alike _ _ t u s exact prints again) spells spelled))
asked_alike Question.fields held also o p h e d s = search (rules, both, fields_by_meaning, read_alike)
asked_alike Question.walk held also o p h e d s = both e d (ap (λ ts. Ok (Answer.walked ts)) (shown_by_layout (read held) (read also) s))
asked_alike Question.is_safe held also o p h e d s = absurd s
asked_alike Question.kind held also o p h e d s = absurd s

-- what is told of two values
truth_alike : (a c : Result Bool Refusal) → seen_by (λ b. b) a ≡ seen_by (λ b. b) c → shape (truth_told a) ≡ shape (truth_told c)
truth_alike x0 x1 e = search rules

-- how values of one meaning are weighed
weighed_alike : (weighing : Weighing) (v w x y : Form) → meaning v ≡ meaning x → meaning w ≡ meaning y
    → shape (weighed weighing v w) ≡ shape (weighed weighing x y)
weighed_alike weighing v w x y e d = search (rules, truth_alike, holds_by_meaning)

module _ (f g : State) (h : MeanTheSame f g) where
  outcomes_same : (request : Request) (into : Option (List ℕ)) (o p : Outcome) → ComesTo f request into o
      → ComesTo g request into p → IsSettled f g request → shape o ≡ shape p
  outcomes_same (remove name) into o p e d s = both e d (λ i. Ok (Answer.found (h name i)))
  outcomes_same (ask question name) into o p e d s =
      asked_alike question (held_at f name) (held_at g name) o p (h name) e d s
  outcomes_same (weigh weighing left right) into o p e d s = search (rules, both, weighed_alike, meaning_alike)
  outcomes_same (find search) into o p e d s =
      both e d (kept_shape into (found_at f search) (found_at g search) (found_alike search f g h))
  outcomes_same v into o p e d s = both e d refl

  outcomes_alike : (q r : Request) (into : Option (List ℕ)) (o p : Outcome) → RequestTheSame q r → ComesTo f q into o
      → ComesTo g r into p → IsSettled f g q → shape o ≡ shape p
  outcomes_alike (set m v) (set n w) into o p a e d s = both e d refl
  outcomes_alike (extend source) (extend other) into o p a e d s = both e d refl
  outcomes_alike q r into o p a e d s = outcomes_same q into o p e (subst (λ k. ComesTo g k into p) (sym a) d) s

set_alike : (f g : State) (name : List ℕ) (v w : Form) → MeanTheSame f g → meaning v ≡ meaning w
    → MeanTheSame (insert f name v) (insert g name w)
set_alike f g name v w h values other = search (rules, get-insert, nat_list_cmp_total, slice_cmp, held_at)

removed_alike : (f g : State) (name : List ℕ) → MeanTheSame f g → MeanTheSame (without f name) (without g name)
removed_alike f g name h other = search (rules, get-remove, nat_list_cmp_total, slice_cmp, held_at)

module _ (f g : State) (h : MeanTheSame f g) where
  kept_alike : (into : Option (List ℕ)) (found also : Found) → found_shape found ≡ found_shape also
      → MeanTheSame (keeping f into found) (keeping g into also)
  kept_alike into found also e = search (rules, set_alike, some_one)

  marked_alike : (name : List ℕ) (into : Option (List ℕ))
      → MeanTheSame (marking_into f name into) (marking_into g name into)
  marked_alike name x1 = search (rules, held_at, set_alike, meaning_marked, meaning_alike)

  states_same : (request : Request) (into : Option (List ℕ)) → MeanTheSame (leaves f request into) (leaves g request into)
  states_same (set name value) into = set_alike f g name value value h refl
  states_same (extend source) into = extended_alike f g source source h (λ name. refl)
  states_same (remove name) into = removed_alike f g name h
  states_same (mark_safe name) into = marked_alike name into
  states_same (find search) into = kept_alike into (found_at f search) (found_at g search) (found_alike search f g h)
  states_same v into = h

  states_left_alike : (q r : Request) (into : Option (List ℕ)) → RequestTheSame q r
      → MeanTheSame (leaves f q into) (leaves g r into)
  states_left_alike q r into a = search (rules, set_alike, extended_alike, states_same)

  pub outcome_alike : (c d : Command) (o p : Outcome) → AskTheSame c d → IsOutcome f c o → IsOutcome g d p
      → IsSettled f g c.request → shape o ≡ shape p
  outcome_alike c d o p a e i s = search (rules, outcomes_alike)

  pub state_alike : (c d : Command) → AskTheSame c d → MeanTheSame (state_after f c) (state_after g d)
  state_alike c d a = search (rules, states_left_alike)

pub asks_the_same : (command : Command) → AskTheSame command command
asks_the_same command = search rules

pub all_ask_the_same : (commands : List Command) → AllAskTheSame commands commands
all_ask_the_same [] = tt
all_ask_the_same (command ∷ commands) = (asks_the_same command, all_ask_the_same commands)

pub all_outcomes_alike : (f g : State) (cs ds : List Command) (os ps : List Outcome) → MeanTheSame f g
    → AllAskTheSame cs ds → AreOutcomes f cs os → AreOutcomes g ds ps → AreAlike f g cs ds os ps
all_outcomes_alike f g (c ∷ cs) (d ∷ ds) (o ∷ os) (p ∷ ps) h a e i =
    search (rules, outcome_alike, state_alike, (all_outcomes_alike (state_after f c) (state_after g d) cs ds os ps (state_alike f g h c d a.0) a.1 e.1 i.1))
all_outcomes_alike f g x2 x3 os ps h a e i = search rules

pub states_alike : (f g : State) (cs ds : List Command) → MeanTheSame f g → AllAskTheSame cs ds
    → MeanTheSame (state_after_all f cs) (state_after_all g ds)
states_alike f g (c ∷ cs) (d ∷ ds) h a = search (rules, state_alike, (states_alike (state_after f c) (state_after g d) cs ds (state_alike f g h c d a.0) a.1))
states_alike f g cs ds h a = search rules

-- outcomes that are alike are as many as the commands
pub as_many : (f g : State) (cs ds : List Command) (os ps : List Outcome) → AreAlike f g cs ds os ps
    → (length cs ≡ length os) × (length os ≡ length ps) × (length ds ≡ length ps)
as_many f g (c ∷ cs) (d ∷ ds) (o ∷ os) (p ∷ ps) h = search (rules, (as_many (state_after f c) (state_after g d) cs ds os ps h.1))
as_many f g cs ds os ps h = search rules

pub ruleset laws = (outcome_alike, state_alike, all_outcomes_alike, states_alike)
