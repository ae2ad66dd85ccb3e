-- What is so of all that a step makes is so of what is answered.
use Rattle.std.specs.Prelude.{◌≡◌, ℕ, Bool, List, [], codes, pos, nat_abs, Option, Some, None, Result, Ok, Err}
use Rattle.std.specs.Option.{ok_or, option_map}
use Rattle.std.specs.Str.{trim}
use Rattle.std.specs.StrCase.Lower.{str_to_lowercase}
use Rattle.std.specs.StrCase.Upper.{str_to_uppercase}
use Rattle.std.proofs.Common.{subst}
use Rattle.tera.specs.Arithmetic.{and_then, each_ok}
use Rattle.tera.specs.Conversion.{IntegerType, converted}
use Rattle.tera.specs.Form.{Form}
use Rattle.tera.specs.Refusal.{Refusal}
use Rattle.tera.specs.Taken.{as_items, as_text}
use Rattle.tera_filters.specs.Arguments.{needed, or_else}
use Rattle.tera_filters.specs.Parts.{ellipsis, replace_of, replaced, truncate_of, truncated}
use Rattle.tera_filters.specs.Texts.{join_of, joined, lower_of, made, trim_of, upper_of}

module _ (test : Form → Bool) (b : Bool) where
  pub each_is : {X : Type 0} (f : X → Form) → ((x : X) → test (f x) ≡ b) → (r : Result X Refusal) (v : Form) → each_ok f r ≡ Ok v
      → test v ≡ b
  each_is f all (Ok x) v is = let same : f x ≡ v = cc in subst (λ w. test w ≡ b) same (all x)
  each_is f all (Err refusal) v is = absurd (cc)

  pub found_is : {X : Type 0} (f : X → Form) → ((x : X) → test (f x) ≡ b) → (o : Option X) (refusal : Refusal) (v : Form)
      → ok_or (option_map f o) refusal ≡ Ok v → test v ≡ b
  found_is f all (Some x) refusal v is = let same : f x ≡ v = cc in subst (λ w. test w ≡ b) same (all x)
  found_is f all None refusal v is = absurd (cc)

  pub then_is : {X : Type 0} (r : Result X Refusal) (next : X → Result Form Refusal) (v : Form)
      → ((x : X) → next x ≡ Ok v → test v ≡ b) → and_then r next ≡ Ok v → test v ≡ b
  then_is (Ok x) next v each is = each x is
  then_is (Err refusal) next v each is = absurd (cc)

  pub handed : (w v : Form) (r : Result Form Refusal) → r ≡ Ok w → r ≡ Ok v → test w ≡ b → test v ≡ b
  handed w v r one other so = let same : w ≡ v = cc in subst (λ x. test x ≡ b) same so

-- the same of the texts that these filters make
module _ (test : Form → Bool) (b : Bool) (all : (t : List ℕ) → test (made t) ≡ b) (value arguments v : Form) where
  pub upper_is : upper_of value ≡ Ok v → test v ≡ b
  upper_is is = each_is test b (λ t. made (str_to_uppercase t)) (λ t. all (str_to_uppercase t)) (as_text value) v is

  pub lower_is : lower_of value ≡ Ok v → test v ≡ b
  lower_is is = each_is test b (λ t. made (str_to_lowercase t)) (λ t. all (str_to_lowercase t)) (as_text value) v is

  pub trim_is : trim_of value ≡ Ok v → test v ≡ b
  trim_is is = each_is test b (λ t. made (trim t)) (λ t. all (trim t)) (as_text value) v is

  pub join_is : join_of value arguments ≡ Ok v → test v ≡ b
  join_is is =
      then_is test b (as_items value)
      (λ xs. and_then (or_else as_text arguments (codes "sep") []) (λ between. each_ok made (joined between xs))) v
      (λ xs. then_is test b (or_else as_text arguments (codes "sep") []) (λ between. each_ok made (joined between xs)) v
      (λ between. each_is test b made all (joined between xs) v)) is

  pub replace_is : replace_of value arguments ≡ Ok v → test v ≡ b
  replace_is is =
      then_is test b (as_text value)
      (λ t. and_then (needed as_text arguments (codes "from"))
      (λ from. each_ok (λ to. made (replaced to from t)) (needed as_text arguments (codes "to")))) v
      (λ t. then_is test b (needed as_text arguments (codes "from"))
      (λ from. each_ok (λ to. made (replaced to from t)) (needed as_text arguments (codes "to"))) v
      (λ from. each_is test b (λ to. made (replaced to from t)) (λ to. all (replaced to from t)) (needed as_text arguments (codes "to")) v)) is

  pub truncate_is : truncate_of value arguments ≡ Ok v → test v ≡ b
  truncate_is is =
      then_is test b (as_text value)
      (λ t. and_then (or_else (converted IntegerType.usize) arguments (codes "length") (pos 255))
      (λ n. each_ok (λ end. made (truncated (nat_abs n) end t)) (or_else as_text arguments (codes "end") ellipsis))) v
      (λ t. then_is test b (or_else (converted IntegerType.usize) arguments (codes "length") (pos 255))
      (λ n. each_ok (λ end. made (truncated (nat_abs n) end t)) (or_else as_text arguments (codes "end") ellipsis)) v
      (λ n. each_is test b (λ end. made (truncated (nat_abs n) end t)) (λ end. all (truncated (nat_abs n) end t))
      (or_else as_text arguments (codes "end") ellipsis) v)) is
