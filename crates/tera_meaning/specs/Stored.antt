-- A code for forms, by which a proof tells them apart. A case is coded as its place among the
-- cases, beside the code of what it holds.
use Rattle.std.specs.Prelude.{◌≡◌, ℕ, Bool, ℤ, List, refl}
use Rattle.std.proofs.Common.{ap}
use Rattle.std.specs.Coded.{Coded, code_by, coded_ℕ, coded_ℤ, coded_bool, coded_list, coded×}
use base.Stored.{Gv, gnil, gnum, gcons}
use Rattle.tera_meaning.specs.Integer.{IntegerKind, u64, i64, u128, i128, Integer}
use Rattle.tera_meaning.specs.KeyMeaning.{KeyOf, truth_key, number_key, text_key, KeyText, owned}
use Rattle.tera_meaning.specs.KeyMeaning.{borrowed}
use Rattle.tera_meaning.specs.Tree.{Tree, Items, Members, undefined, none, truth, number, text}
use Rattle.tera_meaning.specs.Tree.{bytes, array, object, no_items, item, no_members, member}
use Rattle.tera_meaning.specs.Form.{Form, MarkedText}
use Rattle.tera_meaning.specs.State.{State}
use Rattle.std.specs.FinMap.{code}

-- the places of cases
abbrev next : Gv → Gv
next place = gcons gnil place

abbrev first : Gv
first = gnil

abbrev second : Gv
second = next first

abbrev third : Gv
third = next second

abbrev fourth : Gv
fourth = next third

abbrev fifth : Gv
fifth = next fourth

abbrev sixth : Gv
sixth = next fifth

abbrev seventh : Gv
seventh = next sixth

abbrev eighth : Gv
eighth = next seventh

-- what the code of a pair holds
abbrev held : Gv → Gv
held gnil = gnil
held (gnum n) = gnil
held (gcons a b) = b

abbrev place : Gv → Gv
place gnil = gnil
place (gnum n) = gnil
place (gcons a b) = a

abbrev kind_code : IntegerKind → Gv
kind_code u64 = first
kind_code i64 = second
kind_code u128 = third
kind_code i128 = fourth

pub kind_one : (x y : IntegerKind) → kind_code x ≡ kind_code y → x ≡ y
kind_one u64 u64 e = refl
kind_one i64 i64 e = refl
kind_one u128 u128 e = refl
kind_one i128 i128 e = refl
kind_one u64 _ e = cc
kind_one i64 _ e = cc
kind_one u128 _ e = cc
kind_one i128 _ e = cc

abbrev pub coded_kind : Coded IntegerKind
coded_kind = record { code = kind_code; inj = kind_one }

abbrev pub coded_integer : Coded Integer
coded_integer = code_by (IntegerKind × ℤ) (coded× coded_kind coded_ℤ) (λ n. (n.kind, n.value))
    (λ p. record { kind = p.0; value = p.1 }) (λ _. refl)

abbrev pub coded_marked_text : Coded MarkedText
coded_marked_text = code_by (List ℕ × Bool) (coded× (coded_list coded_ℕ) coded_bool)
    (λ t. (t.spelled, t.safe)) (λ p. record { spelled = p.0; safe = p.1 }) (λ _. refl)

abbrev key_text_code : KeyText → Gv
key_text_code (owned t) = gcons first ((coded_list coded_ℕ).code t)
key_text_code (borrowed t) = gcons second ((coded_list coded_ℕ).code t)

pub key_text_one : (x y : KeyText) → key_text_code x ≡ key_text_code y → x ≡ y
key_text_one (owned s) (owned t) e = ap owned ((coded_list coded_ℕ).inj s t (ap held e))
key_text_one (borrowed s) (borrowed t) e = ap borrowed ((coded_list coded_ℕ).inj s t (ap held e))
key_text_one (owned s) (borrowed t) e = cc
key_text_one (borrowed s) (owned t) e = cc

abbrev pub coded_key_text : Coded KeyText
coded_key_text = record { code = key_text_code; inj = key_text_one }

module _ {N T : Type 0} (n : Coded N) (t : Coded T) where
  abbrev key_code : KeyOf N T → Gv
  key_code (truth_key b) = gcons first (coded_bool.code b)
  key_code (number_key z) = gcons second (n.code z)
  key_code (text_key s) = gcons third (t.code s)

  pub key_one : (x y : KeyOf N T) → key_code x ≡ key_code y → x ≡ y
  key_one (truth_key a) (truth_key b) e = ap truth_key (coded_bool.inj a b (ap held e))
  key_one (number_key y) (number_key z) e = ap number_key (n.inj y z (ap held e))
  key_one (text_key r) (text_key s) e = ap text_key (t.inj r s (ap held e))
  key_one (truth_key a) _ e = cc
  key_one (number_key y) _ e = cc
  key_one (text_key r) _ e = cc

  abbrev pub coded_key : Coded (KeyOf N T)
  coded_key = record { code = key_code; inj = key_one }

module _ {N T K : Type 0} (n : Coded N) (t : Coded T) (k : Coded K) where
  abbrev mutual
    tree_code : Tree N T K → Gv
    tree_code undefined = gcons first gnil
    tree_code none = gcons second gnil
    tree_code (truth b) = gcons third (coded_bool.code b)
    tree_code (number z) = gcons fourth (n.code z)
    tree_code (text s) = gcons fifth (t.code s)
    tree_code (bytes bs) = gcons sixth ((coded_list coded_ℕ).code bs)
    tree_code (array xs) = gcons seventh (items_code xs)
    tree_code (object ps) = gcons eighth (members_code ps)

    items_code : Items N T K → Gv
    items_code no_items = gnil
    items_code (item x xs) = gcons (tree_code x) (items_code xs)

    members_code : Members N T K → Gv
    members_code no_members = gnil
    members_code (member l x ps) = gcons (gcons (k.code l) (tree_code x)) (members_code ps)

  mutual
    pub tree_one : (x y : Tree N T K) → tree_code x ≡ tree_code y → x ≡ y
    tree_one undefined undefined e = refl
    tree_one none none e = refl
    tree_one (truth a) (truth b) e = ap truth (coded_bool.inj a b (ap held e))
    tree_one (number y) (number z) e = ap number (n.inj y z (ap held e))
    tree_one (text r) (text s) e = ap text (t.inj r s (ap held e))
    tree_one (bytes cs) (bytes bs) e = ap bytes ((coded_list coded_ℕ).inj cs bs (ap held e))
    tree_one (array xs) (array ys) e = ap array (items_one xs ys (ap held e))
    tree_one (object ps) (object qs) e = ap object (members_one ps qs (ap held e))
    tree_one undefined _ e = cc
    tree_one none _ e = cc
    tree_one (truth a) _ e = cc
    tree_one (number y) _ e = cc
    tree_one (text r) _ e = cc
    tree_one (bytes cs) _ e = cc
    tree_one (array xs) _ e = cc
    tree_one (object ps) _ e = cc

    pub items_one : (xs ys : Items N T K) → items_code xs ≡ items_code ys → xs ≡ ys
    items_one no_items no_items e = refl
    items_one (item x xs) (item y ys) e =
        λ i. item (tree_one x y (ap place e) i) (items_one xs ys (ap held e) i)
    items_one no_items (item y ys) e = cc
    items_one (item x xs) no_items e = cc

    pub members_one : (ps qs : Members N T K) → members_code ps ≡ members_code qs → ps ≡ qs
    members_one no_members no_members e = refl
    members_one (member l x ps) (member m y qs) e =
        λ i. member (k.inj l m (ap (λ g. place (place g)) e) i)
        (tree_one x y (ap (λ g. held (place g)) e) i) (members_one ps qs (ap held e) i)
    members_one no_members (member m y qs) e = cc
    members_one (member l x ps) no_members e = cc

  abbrev pub coded_tree : Coded (Tree N T K)
  coded_tree = record { code = tree_code; inj = tree_one }

abbrev pub coded_form : Coded Form
coded_form = coded_tree coded_integer coded_marked_text (coded_key coded_integer coded_key_text)

-- a text by its bytes
abbrev pub coded_text : Coded (List ℕ)
coded_text = coded_list coded_ℕ

abbrev pub coded_state : Coded State
coded_state = code coded_text coded_form
