-- Forms that a program can hold, and what these mean.
use Rattle.std.specs.Prelude.{ℕ, ℤ, ◌<◌, ⊤, IfSome, List}
use Rattle.std.specs.FinMap.{get as held_at}
use Rattle.std.specs.List.{AllByRecursion}
use Rattle.std.specs.Str.{IsUtf8}
use Rattle.tera_meaning.specs.Form.{Form, MarkedText}
use Rattle.tera_meaning.specs.Integer.{Integer, IsOfKind, IsWide}
use Rattle.tera_meaning.specs.KeyMeaning.{KeyForm, KeyMeaning, truth_key, number_key, text_key}
use Rattle.tera_meaning.specs.KeyMeaning.{key_order, key_text}
use Rattle.tera_meaning.specs.Meaning.{Layout, Meaning}
use Rattle.tera_meaning.specs.Pairs.{HasDistinctKeys, Rises, key_form_order}
use Rattle.tera_meaning.specs.Request.{Command, Request, set, extend, remove, mark_safe, ask, weigh}
use Rattle.tera_meaning.specs.Request.{find}
use Rattle.tera_meaning.specs.State.{State}
use Rattle.tera_meaning.specs.Tree.{Items, Members, undefined, none, truth, number, text, bytes}
use Rattle.tera_meaning.specs.Tree.{array, object, no_items, item, no_members, member, members_list}

abbrev pub IsByte : ℕ → Type 0
IsByte byte = byte < 256

abbrev pub IsWellMadeKey : KeyForm → Type 0
IsWellMadeKey (truth_key b) = ⊤
IsWellMadeKey (number_key n) = IsOfKind n.kind n.value
IsWellMadeKey (text_key t) = IsUtf8 (key_text t)

-- each number is one of its kind, each text spells characters in UTF-8, each byte is below 256, and
-- the keys of each map are distinct
abbrev mutual
  pub IsWellMade : Form → Type 0
  IsWellMade undefined = ⊤
  IsWellMade none = ⊤
  IsWellMade (truth b) = ⊤
  IsWellMade (number n) = IsOfKind n.kind n.value
  IsWellMade (text t) = IsUtf8 t.spelled
  IsWellMade (bytes bs) = AllByRecursion IsByte bs
  IsWellMade (array xs) = AreWellMade xs
  IsWellMade (object ps) = HasDistinctKeys key_form_order (members_list ps) × AreWellMadeMembers ps

  pub AreWellMade : Items Integer MarkedText KeyForm → Type 0
  AreWellMade no_items = ⊤
  AreWellMade (item x xs) = IsWellMade x × AreWellMade xs

  pub AreWellMadeMembers : Members Integer MarkedText KeyForm → Type 0
  AreWellMadeMembers no_members = ⊤
  AreWellMadeMembers (member k x ps) = IsWellMadeKey k × IsWellMade x × AreWellMadeMembers ps

abbrev pub IsWellMadeKeyMeaning : KeyMeaning → Type 0
IsWellMadeKeyMeaning (truth_key b) = ⊤
IsWellMadeKeyMeaning (number_key z) = IsWide z
IsWellMadeKeyMeaning (text_key t) = IsUtf8 t

-- each number is one that some kind holds, each text spells characters in UTF-8, each byte is
-- below 256, and the pair list of each map is as it should be
module _ (IsPairList : List (KeyMeaning × Meaning) → Type 0) where
  abbrev mutual
    pub IsMadeOf : Meaning → Type 0
    IsMadeOf undefined = ⊤
    IsMadeOf none = ⊤
    IsMadeOf (truth b) = ⊤
    IsMadeOf (number z) = IsWide z
    IsMadeOf (text t) = IsUtf8 t
    IsMadeOf (bytes bs) = AllByRecursion IsByte bs
    IsMadeOf (array xs) = AreMadeOf xs
    IsMadeOf (object ps) = IsPairList (members_list ps) × ArePairsOf ps

    pub AreMadeOf : Items ℤ (List ℕ) KeyMeaning → Type 0
    AreMadeOf no_items = ⊤
    AreMadeOf (item x xs) = IsMadeOf x × AreMadeOf xs

    pub ArePairsOf : Members ℤ (List ℕ) KeyMeaning → Type 0
    ArePairsOf no_members = ⊤
    ArePairsOf (member k x ps) = IsWellMadeKeyMeaning k × IsMadeOf x × ArePairsOf ps

-- of a layout the keys of each map are distinct
abbrev pub IsWellMadeLayout : Layout → Type 0
IsWellMadeLayout x = IsMadeOf (HasDistinctKeys key_order) x

-- of a meaning they rise strictly
abbrev pub IsWellMadeMeaning : Meaning → Type 0
IsWellMadeMeaning x = IsMadeOf (Rises key_order) x

-- each name under which a form is held spells characters in UTF-8, and the form is well made
abbrev pub IsWellMadeState : State → Type 0
IsWellMadeState state =
    (name : List ℕ) → IfSome (held_at state name) (λ value. IsUtf8 name × IsWellMade value)

-- the values that the request brings are well made, and the names that they are set under spell
-- characters in UTF-8
abbrev pub BringsWellMade : Request → Type 0
BringsWellMade (set name value) = IsUtf8 name × IsWellMade value
BringsWellMade (extend source) = IsWellMadeState source
BringsWellMade (remove name) = ⊤
BringsWellMade (mark_safe name) = ⊤
BringsWellMade (ask question name) = ⊤
BringsWellMade (weigh weighing left right) = ⊤
BringsWellMade (find search) = ⊤

-- each command brings what is well made, and a name for what it finds spells characters in UTF-8
abbrev pub AllBringWellMade : List Command → Type 0
AllBringWellMade commands =
    AllByRecursion (λ command. BringsWellMade command.request × IfSome command.into IsUtf8) commands
