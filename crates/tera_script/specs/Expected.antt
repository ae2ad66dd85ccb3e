-- What was expected of a bad line, and what is said of it.
use Rattle.std.specs.Prelude.{◌≡◌, ◌≤◌, ◌+◌, ℕ, List, ◌++◌, length, take, Option, Some, None, codes}
use Rattle.std.specs.Prelude.{decimal}
use Rattle.std.specs.Str.{chars, IsUtf8}
use Rattle.tera_script.specs.Line.{IsBad}
use Rattle.tera_script.specs.declared.stop.Expectation.{Expectation}
use Rattle.tera_script.specs.declared.stop.Expected.{Expected}
use Rattle.tera_script.specs.declared.stop.Expectation.TheVariants as what

abbrev pub expectation_text : Expectation → List ℕ
expectation_text what.Character = codes "UTF-8"
expectation_text what.Call = codes "the word of a call"
expectation_text what.Blank = codes "a blank"
expectation_text what.Name = codes "a name"
expectation_text what.Value = codes "a value"
expectation_text what.ValueOrBracket = codes "a value or ']'"
expectation_text what.ValueBehindComma = codes "a value behind ','"
expectation_text what.ValueBehindColon = codes "a value behind ':'"
expectation_text what.CommaOrBracket = codes "',' or ']'"
expectation_text what.KeyOrBrace = codes "a key or '}'"
expectation_text what.KeyBehindComma = codes "a key behind ','"
expectation_text what.TextKey = codes "a text as the key"
expectation_text what.Colon = codes "':'"
expectation_text what.CommaOrBrace = codes "',' or '}'"
expectation_text what.FewerLevels = codes "no more than 64 arrays and maps one inside another"
expectation_text what.Digit = codes "a digit"
expectation_text what.Suffix = codes "u64, i64, u128, i128 or nothing behind the number"
expectation_text what.NumberInRange = codes "a number that its kind holds"
expectation_text what.Quote = codes "'\"' at the end of the text"
expectation_text what.Escape = codes "one of the escapes \\\", \\\\, \\n, \\r, \\t, \\0 and \\u{..}"
expectation_text what.HexDigits = codes "two hexadecimal digits or '\"'"
expectation_text what.Text = codes "a text"
expectation_text what.Bound = codes "'_' or an integer"
expectation_text what.IntegerType = codes "an integer type, as u8 or i128"
expectation_text what.Map = codes "a map"
expectation_text what.ArrowOrEnd = codes "'->' behind a blank, or the end of the line"
expectation_text what.End = codes "the end of the line"

-- what is said of it, with its character counted from 1
abbrev pub told_expected : Expected → List ℕ
told_expected found = codes "expected " ++ (expectation_text found.what
    ++ (codes " at character " ++ decimal (found.characters + 1)))

-- the place is one between two characters of the line: what stands before it is UTF-8
pub record IsPlaceIn (line : List ℕ) (found : Expected) : Type 0 where
  pub within : found.bytes ≤ length line
  pub utf8 : IsUtf8 (take found.bytes line)
  pub characters : found.characters ≡ length (chars (take found.bytes line))

-- what is answered of a line: a place in it where it is bad, and else nothing
abbrev pub IsExpectedOf : List ℕ → Option Expected → Type 0
IsExpectedOf line (Some found) = IsBad line × IsPlaceIn line found
IsExpectedOf line None = ¬ IsBad line
