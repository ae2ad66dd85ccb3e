-- What a line of a conversation asks for.
use Rattle.std.specs.Prelude.{◌≡◌, ◌≢◌, true, ℕ, List, [], ◌∷◌, ◌++◌, codes}
use Rattle.std.specs.Char.{is_ascii_whitespace}
use Rattle.std.specs.Str.{IsTrimAscii}
use Rattle.tera_cli.specs.declared.order.Order.{Order}
use Rattle.tera_cli.specs.declared.order.Order.TheVariants.{Answer, Help, Load, LoadNone}
use Rattle.tera_cli.specs.declared.order.Order.TheVariants.{Names, Quit, Save, SaveNone, Unknown}

-- the first byte is a blank
abbrev pub BeginsWithBlank : List ℕ → Type 0
BeginsWithBlank [] = ⊥
BeginsWithBlank (b ∷ bytes) = is_ascii_whitespace b ≡ true

-- a word, and behind it a blank or more and the name of a file
abbrev pub NamesFile : List ℕ → List ℕ → List ℕ → Type 0
NamesFile order word name = (behind : List ℕ) × (order ≡ word ++ behind) × BeginsWithBlank behind
    × IsTrimAscii behind name

abbrev pub NamesNoFile : List ℕ → List ℕ → Type 0
NamesNoFile order word = (behind : List ℕ) → BeginsWithBlank behind → order ≢ word ++ behind

-- what a line without the blanks round it asks for. A colon is the byte 58
abbrev pub AsksFor : List ℕ → Order → Type 0
AsksFor word Answer = (order : List ℕ) → word ≢ 58 ∷ order
AsksFor word Quit = word ≡ codes ":quit"
AsksFor word Help = word ≡ codes ":help"
AsksFor word Names = word ≡ codes ":names"
AsksFor word (Load name) = NamesFile word (codes ":load") name.now
AsksFor word LoadNone = word ≡ codes ":load"
AsksFor word (Save name) = NamesFile word (codes ":save") name.now
AsksFor word SaveNone = word ≡ codes ":save"
AsksFor word Unknown = ((order : List ℕ) × (word ≡ 58 ∷ order)) × (word ≢ codes ":quit")
    × (word ≢ codes ":help") × (word ≢ codes ":names") × (word ≢ codes ":load")
    × (word ≢ codes ":save") × NamesNoFile word (codes ":load") × NamesNoFile word (codes ":save")

abbrev pub IsOrder : List ℕ → Order → Type 0
IsOrder line order = (word : List ℕ) × IsTrimAscii line word × AsksFor word order
