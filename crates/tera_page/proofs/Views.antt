-- What nodes and scopes stand for, variant by variant.
use Rattle.std.specs.Prelude.{◌≡◌, ℕ, Bool, true, false, cond, List, [], ◌∷◌, Option, Some, Vec, refl}
use Rattle.std.proofs.Common.{ap, rules, sym, ◌∙◌}
use Rattle.std.specs.Borrow.{Bor}
use Rattle.std.specs.Cmp.{eq_by_cmp_equiv}
use Rattle.std.specs.Cmp.Lexicographic.{nat_list_cmp_total, slice_cmp}
use Rattle.std.specs.Ordering.{nat_cmp}
use Rattle.std.specs.FinMap.{empty, get, get-empty, get-insert, insert}
use Rattle.std.specs.Option.{option_or}
use Rattle.std.specs.Str.{bytes_eq}
use Rattle.std.specs.declared.alloc.Global.{Global}
use Rattle.std.proofs.lemmas.Map.Text.{is_eq-slice_cmp}
use Rattle.tera.specs.Form.{Form}
use Rattle.tera.specs.State.{State, extended}
use Rattle.tera.proofs.ExtendLaws.{get_extended}
use Rattle.tera.proofs.StateLaws.{same_state}
use Rattle.tera_page.specs.Rendering.{Names, stands_for, turn_names, under}
use Rattle.tera_page.specs.Template as tree
use Rattle.tera_page.specs.View.{bound_of, names_of, part_of, parts_of, showing_of, state_of, state_with, written_of}
use Rattle.tera_page.specs.declared.scope.Scope as scope
use Rattle.tera_page.specs.declared.scope.Turn.{Turn}
use Rattle.tera_page.specs.declared.tree.Bound.{Bound}
use Rattle.tera_page.specs.declared.tree.Node as node
use Rattle.tera_page.specs.declared.tree.Showing.{Showing}
use Rattle.tera_page.specs.declared.tree.Written.{Written}

pub state-Item : (name : Bor (List ℕ)) (value : Bor Form) (outer : Bor scope.Scope)
    → state_of (scope.Item name value outer) ≡ insert (state_of outer.now) name.now value.now
state-Item name value outer = search (rules, scope.the_lemmas)

pub state-Turn : (turn : Bor Turn) (outer : Bor scope.Scope) → state_of (scope.Turn turn outer) ≡ under (state_of outer.now) (names_of turn.now)
state-Turn turn outer = search (rules, scope.the_lemmas)

pub state-Set : (names : Bor State) (outer : Bor scope.Scope) → state_of (scope.Set names outer) ≡ state_with outer.now (Some names.now)
state-Set names outer = search (rules, scope.the_lemmas)

-- where none is set
pub none_set : (state : State) → extended state empty ≡ state
none_set state =
    same_state (extended state empty) state (λ name.
    get_extended state empty name ∙ ap (λ o. option_or o (get state name)) (get-empty (slice_cmp nat_cmp) name))

-- the value of a name, where one is set and where not
pub get_set : (names : Bor State) (outer : Bor scope.Scope) (word : List ℕ)
    → get (state_of (scope.Set names outer)) word ≡ option_or (get names.now word) (get (state_of outer.now) word)
get_set names outer word = ap (λ s. get s word) (state-Set names outer) ∙ get_extended (state_of outer.now) names.now word

-- an item, in its turn
pub state-turned : (name : Bor (List ℕ)) (value : Bor Form) (turn : Bor Turn) (outer around : Bor scope.Scope) (before all : ℕ)
    → around.now ≡ scope.Turn turn outer → names_of turn.now ≡ turn_names before all
    → state_of (scope.Item name value around) ≡ under (state_of outer.now) ((name.now, value.now) ∷ turn_names before all)
state-turned name value turn outer around before all is same =
    state-Item name value around
    ∙ ap (λ s. insert s name.now value.now) (ap state_of is ∙ state-Turn turn outer ∙ ap (under (state_of outer.now)) same)

-- a pair, in its turn
pub state-paired : (key_name name : Bor (List ℕ)) (key value : Bor Form) (turn : Bor Turn) (outer around keyed : Bor scope.Scope) (before all : ℕ)
    → keyed.now ≡ scope.Item key_name key around → around.now ≡ scope.Turn turn outer → names_of turn.now ≡ turn_names before all
    → state_of (scope.Item name value keyed)
    ≡ under (state_of outer.now) ((name.now, value.now) ∷ (key_name.now, key.now) ∷ turn_names before all)
state-paired key_name name key value turn outer around keyed before all named is same =
    state-Item name value keyed
    ∙ ap (λ s. insert s name.now value.now) (ap state_of named ∙ state-turned key_name key turn outer around before all is same)

pub part-Text : (shown : Bor (List ℕ)) → part_of (node.Text shown) ≡ tree.text shown.now
part-Text shown = search (rules, node.the_lemmas)

pub part-Comment : (said : Bor (List ℕ)) → part_of (node.Comment said) ≡ tree.comment said.now
part-Comment said = search (rules, node.the_lemmas)

pub part-Show : (written : Written) (how : Showing) → part_of (node.Show written how) ≡ tree.show (written_of written) (showing_of how)
part-Show written how = search (rules, node.the_lemmas)

pub part-Set : (name : Bor (List ℕ)) (written : Written) → part_of (node.Set name written) ≡ tree.assign name.now (written_of written)
part-Set name written = search (rules, node.the_lemmas)

pub part-If : (test : Written) (chosen otherwise : Vec node.Node Global)
    → part_of (node.If test chosen otherwise) ≡ tree.choice (written_of test) (parts_of chosen.items) (parts_of otherwise.items)
part-If test chosen otherwise = search (rules, node.the_lemmas)

pub part-For : (bound : Bound) (over : Written) (body otherwise : Vec node.Node Global)
    → part_of (node.For bound over body otherwise) ≡ tree.loop (bound_of bound) (written_of over) (parts_of body.items) (parts_of otherwise.items)
part-For bound over body otherwise = search (rules, node.the_lemmas)

kept : (b : Bool) (v : Form) (o p : Option Form) → cond b (Some v) (option_or o p) ≡ option_or (cond b (Some v) o) p
kept true v o p = refl
kept false v o p = refl

-- the value of a name under some names more
pub get_names : (state : State) (names : Names) (word : List ℕ) → get (under state names) word ≡ option_or (stands_for names word) (get state word)
get_names state [] word = refl
get_names state (name ∷ names) word =
    get-insert nat_list_cmp_total (under state names) name.0 name.1 word
    ∙ ap (λ b. cond b (Some name.1) (get (under state names) word)) (is_eq-slice_cmp word name.0)
    ∙ ap (λ o. cond (bytes_eq word name.0) (Some name.1) o) (get_names state names word)
    ∙ kept (bytes_eq word name.0) name.1 (stands_for names word) (get state word)

-- the value of a name under one name more
pub get_under : (state : State) (name : List ℕ) (value : Form) (other : List ℕ)
    → get (insert state name value) other ≡ cond (bytes_eq name other) (Some value) (get state other)
get_under state name value other =
    get-insert nat_list_cmp_total state name value other
    ∙ ap (λ b. cond b (Some value) (get state other)) ((eq_by_cmp_equiv nat_list_cmp_total).symm other name ∙ is_eq-slice_cmp name other)

-- what a node stands for, of which parts of it are known
pub set_part : (held : node.Node) (name : Bor (List ℕ)) (written : Written) → held ≡ node.Set name written
    → part_of held ≡ tree.assign name.now (written_of written)
set_part held name written is = ap part_of is ∙ part-Set name written

pub show_part : (held : node.Node) (written : Written) (how : Showing) → held ≡ node.Show written how
    → part_of held ≡ tree.show (written_of written) (showing_of how)
show_part held written how is = ap part_of is ∙ part-Show written how

pub choice_part : (held : node.Node) (test : Written) (chosen otherwise : Vec node.Node Global) → held ≡ node.If test chosen otherwise
    → part_of held ≡ tree.choice (written_of test) (parts_of chosen.items) (parts_of otherwise.items)
choice_part held test chosen otherwise is = ap part_of is ∙ part-If test chosen otherwise

pub loop_part : (held : node.Node) (bound : Bound) (over : Written) (body otherwise : Vec node.Node Global) (each others : List node.Node)
    → held ≡ node.For bound over body otherwise → each ≡ body.items → others ≡ otherwise.items
    → part_of held ≡ tree.loop (bound_of bound) (written_of over) (parts_of each) (parts_of others)
loop_part held bound over body otherwise each others is first second =
    ap part_of is ∙ part-For bound over body otherwise
    ∙ ap (λ l. tree.loop (bound_of bound) (written_of over) (parts_of l) (parts_of otherwise.items)) (sym first)
    ∙ ap (λ l. tree.loop (bound_of bound) (written_of over) (parts_of each) (parts_of l)) (sym second)
