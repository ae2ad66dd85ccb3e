-- A text in parts, cut at each byte of one kind.
use Rattle.std.specs.Prelude.{◌≡◌, ◌≢◌, ◌==◌, ℕ, List, [], All}
use Rattle.std.specs.List.{join_with_byte, slice_split}

abbrev pub line_feed : ℕ
line_feed = 10

-- no byte is the separator
abbrev pub HasNone : ℕ → List ℕ → Type 0
HasNone separator text = All (λ byte. byte ≢ separator) text

abbrev pub HasNoLineFeed : List ℕ → Type 0
HasNoLineFeed text = HasNone line_feed text

-- these are the parts of a text: at least one, none with the separator, and joined by it they are
-- the text
abbrev pub AreParts : ℕ → List ℕ → List (List ℕ) → Type 0
AreParts separator text parts =
    (parts ≢ []) × All (HasNone separator) parts × (join_with_byte separator parts ≡ text)

-- the parts of a text, which are these alone
abbrev pub parts_of : ℕ → List ℕ → List (List ℕ)
parts_of separator text = slice_split (λ byte. byte == separator) text
