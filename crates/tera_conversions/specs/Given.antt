-- What collections give, by what their parts give.
use Rattle.std.specs.Prelude.{◌≡◌, ◌⊎◌, ◌<◌, List, [], ◌∷◌, length, Option, Some, None, Result, Ok}
use Rattle.std.specs.Prelude.{Err, reverse}
use Rattle.std.specs.List.{AllZip}
use Rattle.tera_meaning.specs.Form.{Form}
use Rattle.tera_meaning.specs.KeyMeaning.{KeyForm}
use Rattle.tera_meaning.specs.Pairs.{key_form_order, pairs_of, put_all}
use Rattle.tera_meaning.specs.Tree.{none, array, object, items, members}
use Rattle.tera_report.specs.Errors.{IsOutOfMemory}
use Rattle.tera_report.specs.declared.errors.Error.{Error}

-- the first of the parts gives something
abbrev pub FirstGives : {X Y : Type 0} → (X → Y → Type 0) → List X → Type 0
FirstGives gives [] = ⊥
FirstGives {Y = Y} gives (x ∷ xs) = (y : Y) × gives x y

module _ {X Y : Type 0} (gives : X → Y → Type 0) (refuses : X → Error → Type 0) where
  -- the first of the parts that gives nothing is refused so
  abbrev pub FirstRefuses : List X → Error → Type 0
  FirstRefuses [] e = ⊥
  FirstRefuses (x ∷ xs) e = refuses x e ⊎ ((y : Y) × gives x y × FirstRefuses xs e)

  -- the first of the parts that gives nothing is refused so, or there was no memory for what some
  -- parts make
  abbrev pub PartsRefuse : List X → Error → Type 0
  PartsRefuse xs e = ((0 < length xs) × IsOutOfMemory e) ⊎ FirstRefuses xs e

  -- the first of the parts that gives nothing is refused so, or the first part gave something and
  -- there was no memory for what was given
  abbrev pub LaterRefuse : List X → Error → Type 0
  LaterRefuse xs e = (FirstGives gives xs × IsOutOfMemory e) ⊎ FirstRefuses xs e

module _ {X : Type 0} (gives : X → Form → Type 0) where
  -- an array of what the parts give, in their order
  abbrev pub GivesArray : List X → Form → Type 0
  GivesArray xs v = (given : List Form) × AllZip gives xs given × (v ≡ array (items given))

  -- none of nothing, else what the part gives
  abbrev pub GivesPart : Option X → Form → Type 0
  GivesPart None v = v ≡ none
  GivesPart (Some x) v = gives x v

-- what the part is refused with, where there is one
abbrev pub PartRefuses : {X : Type 0} → (X → Error → Type 0) → Option X → Error → Type 0
PartRefuses refuses None e = ⊥
PartRefuses refuses (Some x) e = refuses x e

module _ {K X : Type 0} (key : K → KeyForm → Type 0) (gives : X → Form → Type 0) where
  -- the pair of an entry: of the key that its key gives, and of what its value gives
  abbrev pub GivesPair : K × X → KeyForm × Form → Type 0
  GivesPair entry pair = key entry.0 pair.0 × gives entry.1 pair.1

  -- the pair list of a map into which the entries' pairs are put one after another
  abbrev pub PutsPairs : List (K × X) → List (KeyForm × Form) → Type 0
  PutsPairs entries pairs = (given : List (KeyForm × Form)) × AllZip GivesPair entries given
      × (pairs ≡ put_all key_form_order [] given)

  -- that map
  abbrev pub GivesMap : List (K × X) → Form → Type 0
  GivesMap entries v = (pairs : List (KeyForm × Form)) × PutsPairs entries pairs
      × (v ≡ object (members pairs))

  -- the entries' pairs in rising order of their keys: each is put into the place of its key, one
  -- after another
  abbrev pub PutsRising : List (K × X) → List (KeyForm × Form) → Type 0
  PutsRising entries pairs = (given : List (KeyForm × Form)) × AllZip GivesPair entries given
      × (pairs ≡ pairs_of (reverse given))

  -- the map of these
  abbrev pub GivesRisingMap : List (K × X) → Form → Type 0
  GivesRisingMap entries v = (pairs : List (KeyForm × Form)) × PutsRising entries pairs
      × (v ≡ object (members pairs))

module _ {K X : Type 0} (key : K → KeyForm → Type 0) (no_key : K → Error → Type 0)
    (refuses : X → Error → Type 0) where
  -- what an entry is refused with: its key's error or, where its key gives one, its value's
  abbrev pub PairRefuses : K × X → Error → Type 0
  PairRefuses entry e = no_key entry.0 e ⊎ ((k : KeyForm) × key entry.0 k × refuses entry.1 e)

-- what a result answers: what is given of what it holds, or its own error
abbrev pub Answers : {X : Type 0} → (X → Form → Type 0) → Result X Error → Form → Type 0
Answers gives (Ok x) v = gives x v
Answers gives (Err e) v = ⊥

abbrev pub Fails : {X : Type 0} → (X → Error → Type 0) → Result X Error → Error → Type 0
Fails refuses (Ok x) e = refuses x e
Fails refuses (Err own) e = e ≡ own
