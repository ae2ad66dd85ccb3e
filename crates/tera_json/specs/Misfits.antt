-- What has no place in the other form, and where it stands.
use Rattle.std.specs.Prelude.{ℕ, suc, ◌-◌, ◌==◌, List, [], ◌∷◌, ◌++◌, map, codes}
use Rattle.std.specs.Prelude.{Option, Some, None, if◌then◌else◌}
use Rattle.json.specs.Json.{Json, null, boolean, string, Items, no_items, item, Members}
use Rattle.json.specs.Json.{no_members, member}
use Rattle.json.specs.Json as json
use Rattle.tera_meaning.specs.Integer.{Integer}
use Rattle.tera_json.specs.Numbers.{integer_in}
use Rattle.tera_json.specs.Places.{name_step, item_step}

pub data Reason : Type 0 where
  -- a number, by its text, that no value holds
  no_integer : (text : List ℕ) → Reason
  -- an array or an object inside as many as there may be
  too_deep : Reason
  -- a value of a kind, by its word, that JSON has not
  no_json : (kind : List ℕ) → Reason
  -- a key that is written as another key of its map is
  same_key : Reason

-- The place as a JSON pointer
pub record Misfit : Type 0 where
  pub place : List ℕ
  pub reason : Reason

abbrev pub here : Reason → Misfit
here reason = record { place = []; reason = reason }

-- those of a part, seen from the whole
abbrev pub under : List ℕ → List Misfit → List Misfit
under step found = map (λ m. record { place = step ++ m.place; reason = m.reason }) found

-- what is said of it
abbrev pub said : List ℕ → Reason → List ℕ
said place (no_integer text) =
    codes "Number `" ++ (text ++ (codes "` at `" ++ (place
    ++ codes "` is not an integer from -2^127 to 2^128 - 1")))
said place too_deep = codes "More than 64 levels at `" ++ (place ++ codes "`")
said place (no_json kind) =
    codes "Value of type `" ++ (kind ++ (codes "` at `" ++ (place ++ codes "` has no JSON")))
said place same_key = codes "Key at `" ++ (place ++ codes "` is written as another key is")

abbrev pub misfit_text : Misfit → List ℕ
misfit_text m = said m.place m.reason

-- of a number
abbrev pub number_misfits : List ℕ → Option Integer → List Misfit
number_misfits text (Some n) = []
number_misfits text None = here (no_integer text) ∷ []

-- of a document in which arrays and objects may nest so many levels deep, in the order of the text
abbrev mutual
  pub misfits : ℕ → Json → List Misfit
  misfits levels null = []
  misfits levels (boolean b) = []
  misfits levels (json.number text) = number_misfits text (integer_in text)
  misfits levels (string text) = []
  misfits levels (json.array js) =
      if levels == 0 then here too_deep ∷ [] else item_misfits (levels - 1) 0 js
  misfits levels (json.object ms) =
      if levels == 0 then here too_deep ∷ [] else member_misfits (levels - 1) ms

  -- of items, the first of which has this number
  pub item_misfits : ℕ → ℕ → Items → List Misfit
  item_misfits levels n no_items = []
  item_misfits levels n (item j js) =
      under (item_step n) (misfits levels j) ++ item_misfits levels (suc n) js

  pub member_misfits : ℕ → Members → List Misfit
  member_misfits levels no_members = []
  member_misfits levels (member name j ms) =
      under (name_step name) (misfits levels j) ++ member_misfits levels ms
