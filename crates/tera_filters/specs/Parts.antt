-- What filters make of parts of texts. No text that they make is marked safe.
use Rattle.std.specs.Prelude.{◌<◌, ◌≢◌, ℕ, zero, suc, pos, nat_abs, nat_lt, if◌then◌else◌, List}
use Rattle.std.specs.Prelude.{[], ◌∷◌, ◌++◌, length, take, drop, codes, Result}
use Rattle.std.specs.Char.{encode_utf8}
use Rattle.std.specs.Str.{chars, encode_utf8_all}
use Rattle.tera.specs.Arithmetic.{and_then, each_ok}
use Rattle.tera.specs.Conversion.{IntegerType, converted}
use Rattle.tera.specs.Form.{Form}
use Rattle.tera.specs.Lookup.{begins_with}
use Rattle.tera.specs.Refusal.{Refusal}
use Rattle.tera.specs.Taken.{as_text}
use Rattle.tera_filters.specs.Arguments.{needed, or_else}
use Rattle.tera_filters.specs.Texts.{made}

module _ (to : List ℕ) where
  -- `to` in the place of each text of the bytes `first ∷ others`, from left to right. So many bytes
  -- of the last one are still to be passed over
  abbrev pub in_place : ℕ → List ℕ → ℕ → List ℕ → List ℕ
  in_place first others waits [] = []
  in_place first others (suc waits) (b ∷ bs) = in_place first others waits bs
  in_place first others zero (b ∷ bs) =
      if begins_with (b ∷ bs) (first ∷ others) then to ++ in_place first others (length others) bs
      else b ∷ in_place first others zero bs

  -- `to` before each character and behind the last
  abbrev pub around : List ℕ → List ℕ
  around [] = to
  around (c ∷ cs) = to ++ (encode_utf8 c ++ around cs)

  -- `to` in the place of each `from`. An empty one stands before each character and behind the last
  abbrev pub replaced : List ℕ → List ℕ → List ℕ
  replaced [] t = around (chars t)
  replaced (first ∷ others) t = in_place first others zero t

-- a text stands at none of the first n places of another
abbrev pub NotBefore : List ℕ → ℕ → List ℕ → Type 0
NotBefore part n t = (i : ℕ) → i < n → (rest : List ℕ) → drop i t ≢ part ++ rest

-- a text with the argument `to` in the place of each argument `from`
abbrev pub replace_of : Form → Form → Result Form Refusal
replace_of value arguments =
    and_then (as_text value) (λ t. and_then (needed as_text arguments (codes "from"))
    (λ from. each_ok (λ to. made (replaced to from t)) (needed as_text arguments (codes "to"))))

-- at most so many characters of a text, and an end where there are more
abbrev pub truncated : ℕ → List ℕ → List ℕ → List ℕ
truncated n end t =
    if nat_lt n (length (chars t)) then encode_utf8_all (take n (chars t)) ++ end else t

-- the bytes of `…`
abbrev pub ellipsis : List ℕ
ellipsis = 226 ∷ 128 ∷ 166 ∷ []

-- at most as many characters of a text as the argument `length` says, or 255, and where there are
-- more the argument `end`, or `…`
abbrev pub truncate_of : Form → Form → Result Form Refusal
truncate_of value arguments =
    and_then (as_text value)
    (λ t. and_then (or_else (converted IntegerType.usize) arguments (codes "length") (pos 255))
    (λ n. each_ok (λ end. made (truncated (nat_abs n) end t))
    (or_else as_text arguments (codes "end") ellipsis)))
