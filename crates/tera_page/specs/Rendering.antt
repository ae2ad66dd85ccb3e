-- What a template shows of a state.
use Rattle.std.specs.Prelude.{◌≡◌, ◌+◌, ◌==◌, ◌++◌, ℕ, suc, pos, List, [], ◌∷◌, codes, length, map}
use Rattle.std.specs.Prelude.{Option, None, Some, Result, Ok, Err, if◌then◌else◌}
use Rattle.std.specs.FinMap.{insert}
use Rattle.std.specs.Option.{ok_or}
use Rattle.std.specs.Result.{result_map_both, result_unwrap_or}
use Rattle.std.specs.Str.{bytes_eq, trim}
use Rattle.tera.specs.Arithmetic.{and_then, each_ok}
use Rattle.tera.specs.Form.{Form}
use Rattle.tera.specs.InPage.{ShowsInPage}
use Rattle.tera.specs.InTurn.{ShownInTurn}
use Rattle.tera.specs.Integer.{u64}
use Rattle.tera.specs.Key.{key_value}
use Rattle.tera.specs.KeyMeaning.{KeyForm}
use Rattle.tera.specs.Meaning.{layout}
use Rattle.tera.specs.Quoted.{Prints}
use Rattle.tera.specs.Read.{items_in, members_in}
use Rattle.tera.specs.Refusal.{Refusal, message}
use Rattle.tera.specs.State.{State}
use Rattle.tera.specs.Tree.{number, truth}
use Rattle.tera_page.specs.Template as tree
use Rattle.tera_page.specs.Template.{Bound, Showing, Part, Parts, Written, item, pair}
use Rattle.tera_page.specs.Values.{is_there, is_true, value_of}

-- what is said of what an expression stands for, by its text without blanks around it
abbrev pub nothing_at : List ℕ → Refusal
nothing_at said = message (codes "Nothing is found at `" ++ (trim said ++ codes "`"))

abbrev pub no_array_at : List ℕ → Refusal
no_array_at said = message (codes "What is found at `" ++ (trim said ++ codes "` is no array"))

abbrev pub no_map_at : List ℕ → Refusal
no_map_at said = message (codes "What is found at `" ++ (trim said ++ codes "` is no map"))

-- undefined is nothing
abbrev pub there : List ℕ → Form → Result Form Refusal
there said value = if is_there value then Ok value else Err (nothing_at said)

-- why there is no page, and the template from the tag on that is refused
pub record Failure : Type 0 where
  pub from : List ℕ
  pub why : Refusal

-- what an expression is for, or why it is refused, which is told at its tag
abbrev pub placed : {X : Type 0} → Written → Result X Refusal → Result X Failure
placed w r = result_map_both (λ x. x) (λ refusal. record { from = w.from; why = refusal }) r

-- what comes of the first, or why that is refused
abbrev pub on : {X Y : Type 0} → Result X Failure → (X → Result Y Failure) → Result Y Failure
on (Ok x) next = next x
on (Err failure) next = Err failure

-- what is refused, wherever it stands
abbrev pub unplaced : {X : Type 0} → Result X Failure → Result X Refusal
unplaced r = result_map_both (λ x. x) (λ failure. failure.why) r

-- one piece of a page: a text of the template, or a value
pub data Piece : Type 0 where
  verbatim : List ℕ → Piece
  value : Showing → Form → Piece

-- pieces one behind the other, or the first failure
abbrev pub Pieces : Type 0
Pieces = Result (List Piece) Failure

abbrev pub joined : Pieces → Pieces → Pieces
joined first rest = on first (λ xs. on rest (λ ys. Ok (xs ++ ys)))

abbrev pub each : {X : Type 0} → (X → Pieces) → List X → Pieces
each f [] = Ok []
each f (x ∷ xs) = joined (f x) (each f xs)

-- the value that is shown
abbrev pub shown_value : Written → State → Result Form Failure
shown_value w state = placed w (and_then (value_of w.expression state) (there w.text))

-- the items of an array
abbrev pub items_of : List ℕ → Form → Result (List Form) Refusal
items_of said v = and_then (there said v) (λ it. ok_or (items_in it) (no_array_at said))

-- the pairs of a map
abbrev pub pairs_of : List ℕ → Form → Result (List (KeyForm × Form)) Refusal
pairs_of said v = and_then (there said v) (λ it. ok_or (members_in it) (no_map_at said))

-- names, and what they stand for
abbrev pub Names : Type 0
Names = List (List ℕ × Form)

-- what a name stands for: the first that is the same
abbrev pub stands_for : Names → List ℕ → Option Form
stands_for [] word = None
stands_for (name ∷ names) word =
    if bytes_eq word name.0 then Some name.1 else stands_for names word

-- the state with these names, each of which hides one like it of those behind it and of the state
abbrev pub under : State → Names → State
under state [] = state
under state (name ∷ names) = insert (under state names) name.0 name.1

-- the names of the turn of a loop that stands behind i others, where there are n in all
abbrev pub turn_names : ℕ → ℕ → Names
turn_names i n =
    (codes "loop.index", number (record { kind = u64; value = pos (i + 1) }))
    ∷ (codes "loop.index0", number (record { kind = u64; value = pos i }))
    ∷ (codes "loop.first", truth (i == 0)) ∷ (codes "loop.last", truth (i + 1 == n)) ∷ []

-- the state in each turn from the one behind i others on, each with names of its own
abbrev pub turns_from : State → ℕ → ℕ → List Names → List State
turns_from state i n [] = []
turns_from state i n (own ∷ owns) =
    under state (own ++ turn_names i n) ∷ turns_from state (suc i) n owns

abbrev pub turns : State → List Names → List State
turns state owns = turns_from state 0 (length owns) owns

-- each item under a name
abbrev pub named_items : List ℕ → List Form → List Names
named_items name xs = map (λ x. (name, x) ∷ []) xs

-- each key and each value under a name, of which the value's hides the key's
abbrev pub named_pairs : List ℕ → List ℕ → List (KeyForm × Form) → List Names
named_pairs k v ps = map (λ p. (v, p.1) ∷ (k, key_value p.0) ∷ []) ps

-- the names of each turn of a loop
abbrev pub owns : Bound → List ℕ → Form → Result (List Names) Refusal
owns (item name) said v = and_then (items_of said v) (λ xs. Ok (named_items name xs))
owns (pair k v) said w = and_then (pairs_of said w) (λ ps. Ok (named_pairs k v ps))

-- what is repeated in each turn; or what is taken where there is none
abbrev pub repeated : (State → Pieces) → (State → Pieces) → State → List Names → Pieces
repeated body otherwise state [] = otherwise state
repeated body otherwise state (own ∷ owns) = each body (turns state (own ∷ owns))

-- the names of each turn of a loop over what an expression stands for
abbrev pub loop_names : Bound → Written → State → Result (List Names) Failure
loop_names bound over state =
    placed over (and_then (value_of over.expression state) (owns bound over.text))

-- the state behind a part; what is set in a loop ends with it. It is as it was where a value is
-- refused
abbrev mutual
  pub after : Part → State → State
  after (tree.text t) state = state
  after (tree.comment t) state = state
  after (tree.show w how) state = state
  after (tree.assign name w) state =
      result_unwrap_or (each_ok (insert state name) (value_of w.expression state)) state
  after (tree.choice test chosen otherwise) state =
      result_unwrap_or (each_ok
      (λ v. if is_true v then all_after chosen state else all_after otherwise state)
      (value_of test.expression state)) state
  after (tree.loop bound over body otherwise) state = state

  pub all_after : Parts → State → State
  all_after tree.no_parts state = state
  all_after (tree.part p ps) state = all_after ps (after p state)

-- the pieces of a part, and of parts one behind the other, each in the state behind the one before
abbrev mutual
  pub pieces : Part → State → Pieces
  pieces (tree.text t) state = Ok (verbatim t ∷ [])
  pieces (tree.comment t) state = Ok []
  pieces (tree.show w how) state = on (shown_value w state) (λ v. Ok (value how v ∷ []))
  pieces (tree.assign name w) state = on (placed w (value_of w.expression state)) (λ v. Ok [])
  pieces (tree.choice test chosen otherwise) state =
      on (placed test (value_of test.expression state))
      (λ v. if is_true v then all_pieces chosen state else all_pieces otherwise state)
  pieces (tree.loop bound over body otherwise) state =
      on (loop_names bound over state)
      (repeated (all_pieces body) (all_pieces otherwise) state)

  pub all_pieces : Parts → State → Pieces
  all_pieces tree.no_parts state = Ok []
  all_pieces (tree.part p ps) state = joined (pieces p state) (all_pieces ps (after p state))

-- what a piece shows
abbrev pub ShowsPiece : Piece → List ℕ → Type 0
ShowsPiece (verbatim t) shown = shown ≡ t
ShowsPiece (value tree.in_page v) shown = ShowsInPage v shown
ShowsPiece (value tree.as_printed v) shown = Prints (layout v) shown

-- the page of some pieces, which are not refused
abbrev pub IsPageOf : Pieces → List ℕ → Type 0
IsPageOf (Ok ps) page = ShownInTurn ShowsPiece ps page
IsPageOf (Err failure) page = ⊥

-- the page of some pieces was put behind what stood there
abbrev pub Grows : Pieces → List ℕ → List ℕ → Type 0
Grows pieces old new =
    (page : List ℕ) × IsPageOf pieces page × (new ≡ old ++ page)
