-- What parts show, and the state behind them.
use Rattle.std.specs.Prelude.{◌≡◌, List, [], ◌∷◌, Bool, cond, ℕ, Ok, length, nat_eq, not, true, false}
use Rattle.std.proofs.Common.{ap, sym, subst, ◌∙◌}
use Rattle.std.specs.FinMap.{insert}
use Rattle.std.specs.Result.{result_unwrap_or}
use Rattle.tera.specs.Arithmetic.{and_then, each_ok}
use Rattle.tera.specs.Form.{Form}
use Rattle.tera.specs.KeyMeaning.{KeyForm}
use Rattle.tera.specs.State.{State}
use Rattle.tera_page.proofs.Failing.{fails_on, no_turns, placed_on, repeated_fails, some_turns}
use Rattle.tera_page.specs.Failures.{Fails}
use Rattle.tera_page.specs.Rendering.{Grows, Names, after, all_after, all_pieces, each, items_of, loop_names, named_items, named_pairs, on, owns}
use Rattle.tera_page.specs.Rendering.{pairs_of, pieces, placed, repeated, shown_value, there, turns, value}
use Rattle.tera_page.specs.Template.{Bound, Parts, Showing, Written, assign, choice, item, loop, pair, show}
use Rattle.tera_page.specs.Values.{is_true, value_of}
use Rattle.tera_page.specs.declared.failure.Failure as code

-- a name that is set
module _ (name : List ℕ) (w : Written) (state : State) where
  pub shows_set : (v : Form) → value_of w.expression state ≡ Ok v
      → (pieces (assign name w) state ≡ Ok []) × (after (assign name w) state ≡ insert state name v)
  shows_set v given = (
    ap (λ r. on (placed w r) (λ x. Ok [])) given,
    ap (λ r. result_unwrap_or (each_ok (insert state name) r) state) given,
  )

  pub set_fails : (failed : code.Failure) → Fails (placed w (value_of w.expression state)) failed → Fails (pieces (assign name w) state) failed
  set_fails failed is = fails_on (placed w (value_of w.expression state)) (λ x. Ok []) failed is

-- a value that is shown
module _ (w : Written) (how : Showing) (state : State) where
  pub shows_value : (v : Form) → value_of w.expression state ≡ Ok v → there w.text v ≡ Ok v
      → pieces (show w how) state ≡ Ok (value how v ∷ [])
  shows_value v given is =
      ap (λ r. on (placed w (and_then r (there w.text))) (λ x. Ok (value how x ∷ []))) given
      ∙ ap (λ r. on (placed w r) (λ x. Ok (value how x ∷ []))) is

  pub value_fails : (failed : code.Failure) → Fails (placed w (value_of w.expression state)) failed → Fails (pieces (show w how) state) failed
  value_fails failed is =
      fails_on (shown_value w state) (λ x. Ok (value how x ∷ [])) failed (placed_on w (value_of w.expression state) (there w.text) failed is)

  pub nothing_fails : (v : Form) (failed : code.Failure) → value_of w.expression state ≡ Ok v → Fails (placed w (there w.text v)) failed
      → Fails (pieces (show w how) state) failed
  nothing_fails v failed given is =
      fails_on (shown_value w state) (λ x. Ok (value how x ∷ [])) failed
      (subst (λ r. Fails (placed w (and_then r (there w.text))) failed) (sym given) is)

-- a choice
module _ (test : Written) (chosen otherwise : Parts) (state : State) where
  pub shows_choice : (v : Form) (b : Bool) → value_of test.expression state ≡ Ok v → is_true v ≡ b
      → pieces (choice test chosen otherwise) state ≡ cond b (all_pieces chosen state) (all_pieces otherwise state)
  shows_choice v b given same =
      ap (λ r. on (placed test r) (λ w. cond (is_true w) (all_pieces chosen state) (all_pieces otherwise state))) given
      ∙ ap (λ t. cond t (all_pieces chosen state) (all_pieces otherwise state)) same

  pub after_choice : (v : Form) (b : Bool) → value_of test.expression state ≡ Ok v → is_true v ≡ b
      → after (choice test chosen otherwise) state ≡ cond b (all_after chosen state) (all_after otherwise state)
  after_choice v b given same =
      ap (λ r. result_unwrap_or (each_ok (λ w. cond (is_true w) (all_after chosen state) (all_after otherwise state)) r) state) given
      ∙ ap (λ t. cond t (all_after chosen state) (all_after otherwise state)) same

  pub choice_fails : (failed : code.Failure) → Fails (placed test (value_of test.expression state)) failed
      → Fails (pieces (choice test chosen otherwise) state) failed
  choice_fails failed is =
      fails_on (placed test (value_of test.expression state)) (λ w. cond (is_true w) (all_pieces chosen state) (all_pieces otherwise state))
      failed is

-- the names of the turns of a loop
module _ (over : Written) (state : State) (v : Form) (given : value_of over.expression state ≡ Ok v) where
  pub item_names : (name : List ℕ) (xs : List Form) → items_of over.text v ≡ Ok xs → loop_names (item name) over state ≡ Ok (named_items name xs)
  item_names name xs got =
      ap (λ r. placed over (and_then r (owns (item name) over.text))) given
      ∙ ap (λ r. placed over (and_then r (λ ys. Ok (named_items name ys)))) got

  pub pair_names : (k name : List ℕ) (ps : List (KeyForm × Form)) → pairs_of over.text v ≡ Ok ps
      → loop_names (pair k name) over state ≡ Ok (named_pairs k name ps)
  pair_names k name ps got =
      ap (λ r. placed over (and_then r (owns (pair k name) over.text))) given
      ∙ ap (λ r. placed over (and_then r (λ qs. Ok (named_pairs k name qs)))) got

  pub items_fail : (name : List ℕ) (failed : code.Failure) → Fails (placed over (items_of over.text v)) failed
      → Fails (loop_names (item name) over state) failed
  items_fail name failed is =
      subst (λ r. Fails (placed over (and_then r (owns (item name) over.text))) failed) (sym given)
      (placed_on over (items_of over.text v) (λ ys. Ok (named_items name ys)) failed is)

  pub pairs_fail : (k name : List ℕ) (failed : code.Failure) → Fails (placed over (pairs_of over.text v)) failed
      → Fails (loop_names (pair k name) over state) failed
  pairs_fail k name failed is =
      subst (λ r. Fails (placed over (and_then r (owns (pair k name) over.text))) failed) (sym given)
      (placed_on over (pairs_of over.text v) (λ qs. Ok (named_pairs k name qs)) failed is)

-- a loop
module _ (bound : Bound) (over : Written) (body otherwise : Parts) (state : State) where
  pub value_fails_loop : (failed : code.Failure) → Fails (placed over (value_of over.expression state)) failed
      → Fails (loop_names bound over state) failed
  value_fails_loop failed is = placed_on over (value_of over.expression state) (owns bound over.text) failed is

  pub loop_fails : (failed : code.Failure) → Fails (loop_names bound over state) failed → Fails (pieces (loop bound over body otherwise) state) failed
  loop_fails failed is = fails_on (loop_names bound over state) (repeated (all_pieces body) (all_pieces otherwise) state) failed is

  -- what is shown in its turns, where it has some, and else what is taken otherwise
  module _ (all : List Names) (given : loop_names bound over state ≡ Ok all) where
    shows_all : pieces (loop bound over body otherwise) state ≡ repeated (all_pieces body) (all_pieces otherwise) state all
    shows_all = ap (λ r. on r (repeated (all_pieces body) (all_pieces otherwise) state)) given

    pub shows_each : true ≡ not (nat_eq (length all) 0) → pieces (loop bound over body otherwise) state ≡ each (all_pieces body) (turns state all)
    shows_each some = shows_all ∙ some_turns (all_pieces body) (all_pieces otherwise) state all some

    pub shows_otherwise : (old mid : List ℕ) → false ≡ not (nat_eq (length all) 0)
        → Grows (each (all_pieces body) (turns state all)) old mid
        → (pieces (loop bound over body otherwise) state ≡ all_pieces otherwise state) × (mid ≡ old)
    shows_otherwise old mid none grows =
        let (same, still) = no_turns (all_pieces body) (all_pieces otherwise) state all old mid none grows in (shows_all ∙ same, still)

    pub turns_fail : (failed : code.Failure) → Fails (each (all_pieces body) (turns state all)) failed
        → Fails (pieces (loop bound over body otherwise) state) failed
    turns_fail failed is =
        subst (λ p. Fails p failed) (sym shows_all) (repeated_fails (all_pieces body) (all_pieces otherwise) state all failed is)
