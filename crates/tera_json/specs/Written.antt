-- Which document a value is written as, and what of it is not.
use Rattle.std.specs.Prelude.{ℕ, suc, ◌-◌, ◌==◌, Bool, List, [], ◌∷◌, ◌++◌, codes}
use Rattle.std.specs.Prelude.{is_some, if◌then◌else◌}
use Rattle.std.specs.Fmt.{signed_decimal}
use Rattle.json.specs.Json.{Json, null, boolean, string}
use Rattle.json.specs.Json as json
use Rattle.tera_json.specs.Misfits.{Misfit, here, under, no_json, too_deep, same_key}
use Rattle.tera_json.specs.Places.{name_step, item_step}
use Rattle.tera_json.specs.declared.write.Lacking.{Lacking}
use Rattle.tera_json.specs.declared.write.Lacking.TheVariants.{Refused, Null}
use Rattle.tera_meaning.specs.Form.{Form, MarkedText}
use Rattle.tera_meaning.specs.Integer.{Integer}
use Rattle.tera_meaning.specs.KeyMeaning.{KeyForm, text_key, owned, key_meaning}
use Rattle.tera_meaning.specs.Pairs.{key_form_order, value_at}
use Rattle.tera_meaning.specs.Printed.{shown_key}
use Rattle.tera_meaning.specs.Tree.{Items, Members, undefined, none, truth, number, text, bytes}
use Rattle.tera_meaning.specs.Tree.{array, object, no_items, item, no_members, member, members_list}

-- the name that a key is written as: a truth value by its word, a number in decimal
abbrev pub name_of : KeyForm → List ℕ
name_of k = shown_key (key_meaning k)

-- kinds of integers and flags of texts are not written, and undefined and bytes as null
abbrev mutual
  pub document_of : Form → Json
  document_of undefined = null
  document_of none = null
  document_of (truth b) = boolean b
  document_of (number n) = json.number (signed_decimal n.value)
  document_of (text t) = string t.spelled
  document_of (bytes bs) = null
  document_of (array xs) = json.array (documents_of xs)
  document_of (object ps) = json.object (members_of ps)

  pub documents_of : Items Integer MarkedText KeyForm → json.Items
  documents_of no_items = json.no_items
  documents_of (item x xs) = json.item (document_of x) (documents_of xs)

  pub members_of : Members Integer MarkedText KeyForm → json.Members
  members_of no_members = json.no_members
  members_of (member k x ps) = json.member (name_of k) (document_of x) (members_of ps)

-- a value that JSON has no word for
abbrev pub lacking_misfits : Lacking → List ℕ → List Misfit
lacking_misfits Refused kind = here (no_json kind) ∷ []
lacking_misfits Null kind = []

-- whether some key of the pairs is this text
abbrev pub has_text : List (KeyForm × Form) → List ℕ → Bool
has_text pairs name = is_some (value_at key_form_order pairs (text_key (owned name)))

-- a key that is no text, where the text that it is written as is a key too
abbrev pub key_misfits : List (KeyForm × Form) → KeyForm → List Misfit
key_misfits pairs (text_key t) = []
key_misfits pairs k =
    if has_text pairs (name_of k) then under (name_step (name_of k)) (here same_key ∷ []) else []

-- of a value in which arrays and maps may nest so many levels deep, in the order of its text
abbrev mutual
  pub value_misfits : Lacking → ℕ → Form → List Misfit
  value_misfits lacking levels undefined = lacking_misfits lacking (codes "undefined")
  value_misfits lacking levels none = []
  value_misfits lacking levels (truth b) = []
  value_misfits lacking levels (number n) = []
  value_misfits lacking levels (text t) = []
  value_misfits lacking levels (bytes bs) = lacking_misfits lacking (codes "bytes")
  value_misfits lacking levels (array xs) =
      if levels == 0 then here too_deep ∷ [] else values_misfits lacking (levels - 1) 0 xs
  value_misfits lacking levels (object ps) =
      if levels == 0 then here too_deep ∷ []
      else pairs_misfits lacking (levels - 1) (members_list ps) ps

  -- of items, the first of which has this number
  pub values_misfits : Lacking → ℕ → ℕ → Items Integer MarkedText KeyForm → List Misfit
  values_misfits lacking levels n no_items = []
  values_misfits lacking levels n (item x xs) =
      under (item_step n) (value_misfits lacking levels x)
      ++ values_misfits lacking levels (suc n) xs

  -- of pairs that are left of all of a map
  pub pairs_misfits : Lacking → ℕ → List (KeyForm × Form) → Members Integer MarkedText KeyForm
      → List Misfit
  pairs_misfits lacking levels all no_members = []
  pairs_misfits lacking levels all (member k x ps) =
      key_misfits all k ++ (under (name_step (name_of k)) (value_misfits lacking levels x)
      ++ pairs_misfits lacking levels all ps)
