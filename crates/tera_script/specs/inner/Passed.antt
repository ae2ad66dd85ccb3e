-- What is answered of a part that is passed, and of which nothing is made.
use Rattle.std.specs.Prelude.{◌≡◌, ◌≤◌, ℕ, Bool, true, List, Option, Some, None, IsSome, Result}
use Rattle.std.specs.Prelude.{Ok, Err}
use Rattle.std.specs.Borrow.{Bor}
use Rattle.std.specs.List.{AllByRecursion}
use Rattle.std.specs.Str.{IsUtf8}
use Rattle.tera_meaning.specs.Form.{Form, MarkedText}
use Rattle.tera_meaning.specs.Integer.{Integer}
use Rattle.tera_meaning.specs.KeyMeaning.{KeyForm}
use Rattle.tera_meaning.specs.Tree.{Members, members_list, object, depth}
use Rattle.tera_values.specs.Key.{text_in_key, key_value}
use Rattle.tera_script.specs.Readers.{Stops, is_word_byte, BeginsWithKey, BeginsWithLiteral}
use Rattle.tera_script.specs.Readers.{BeginsWithPair, Ends, AllIn}
use Rattle.tera_meaning.specs.Request.{Command}
use Rattle.tera_script.specs.inner.Command.{IsCommandAt}
use Rattle.tera_script.specs.declared.stop.Stop.{Stop}

-- there is something that a reader of the part may answer, and these bytes stand behind it; or the
-- reader may answer nothing
abbrev pub Passes : {E : Type 0} → (Option (E × List ℕ) → Type 0)
    → Result (Bor (List ℕ)) Stop → Type 0
Passes {E} IsAt (Ok rest) = (e : E) × IsAt (Some (e, rest.now))
Passes IsAt (Err stop) = IsAt None

-- a key, which may have to be a text
abbrev pub IsTextIf : Bool → KeyForm → Type 0
IsTextIf texts key = texts ≡ true → IsSome (text_in_key key)

-- a pair whose key may have to be a text stands before the rest
abbrev pub BeginsWithPairIf : Bool → List ℕ → KeyForm × Form → List ℕ → Type 0
BeginsWithPairIf texts bytes pair rest = BeginsWithPair bytes pair rest × IsTextIf texts pair.0

-- what is answered of keys, of pairs and of what stands behind the brace of a map, where keys may
-- have to be texts
abbrev pub IsKeyIfAt : Bool → List ℕ → Option (KeyForm × List ℕ) → Type 0
IsKeyIfAt texts xs (Some found) = BeginsWithKey xs found.0 found.1
    × Ends (key_value found.0) found.1 × IsTextIf texts found.0
IsKeyIfAt texts xs None = IsUtf8 xs → (key : KeyForm) (rest : List ℕ) → BeginsWithKey xs key rest
    → IsTextIf texts key → ¬ Stops is_word_byte rest

abbrev pub IsPairIfAt : Bool → ℕ → List ℕ → Option ((KeyForm × Form) × List ℕ) → Type 0
IsPairIfAt texts levels xs (Some found) = BeginsWithPairIf texts xs found.0 found.1
    × Ends found.0.1 found.1 × (depth found.0.1 ≤ levels)
IsPairIfAt texts levels xs None = IsUtf8 xs → (pair : KeyForm × Form) (rest : List ℕ)
    → BeginsWithPairIf texts xs pair rest → depth pair.1 ≤ levels → ¬ Stops is_word_byte rest

abbrev pub IsMapIfAt : Bool → ℕ → List ℕ
    → Option (Members Integer MarkedText KeyForm × List ℕ) → Type 0
IsMapIfAt texts levels xs (Some found) =
    AllIn (BeginsWithPairIf texts) 125 xs (members_list found.0) found.1
    × (depth (object found.0) ≤ levels)
IsMapIfAt texts levels xs None = IsUtf8 xs → (all : Members Integer MarkedText KeyForm)
    (rest : List ℕ) → AllIn (BeginsWithPairIf texts) 125 xs (members_list all) rest
    → ¬ (depth (object all) ≤ levels)

-- a command stands there, before blanks; or none does
abbrev pub IsCommandPassed : {R E : Type 0} → List ℕ → Result R E → Type 0
IsCommandPassed bytes (Ok done) = (command : Command) × IsCommandAt bytes (Some command)
IsCommandPassed bytes (Err stop) = IsCommandAt bytes None
