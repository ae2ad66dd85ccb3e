-- Refusals as data, their texts, and what of them depends on no type's name.
use Rattle.std.specs.Prelude.{◌≡◌, ℕ, ℤ, List, [], ◌++◌, codes, Option, Some, None, unwrap_or}
use Rattle.std.specs.Option.{option_map}
use Rattle.std.specs.Fmt.{◌++?◌, debug_str, debug_list, signed_decimal}
use Rattle.std.specs.declared.io.ErrorKind.{ErrorKind as IoKind}
use Rattle.tera_report.specs.Quoted.{IsText, QuotesList}
use Rattle.tera_report.specs.Report.{Report, report_text}

-- The operators of arithmetic, and how each is written
pub data Operator : Type 0 where
  plus : Operator
  minus : Operator
  times : Operator
  remainder : Operator
  floor_division : Operator
  power : Operator

abbrev pub operator_text : Operator → List ℕ
operator_text plus = codes "+"
operator_text minus = codes "-"
operator_text times = codes "*"
operator_text remainder = codes "%"
operator_text floor_division = codes "//"
operator_text power = codes "**"

-- What an index goes into, and the word for it
pub data Container : Type 0 where
  in_array : Container
  in_text : Container

abbrev pub container_word : Container → List ℕ
container_word in_array = codes "Array"
container_word in_text = codes "String"

-- One constructor for each refusal. Texts and names stand as their bytes; `actual` is the name of
-- the kind that the refused value really has.
pub data Refusal : Type 0 where
  -- what the kinds of errors state in words of the caller's own
  message : (text : List ℕ) → Refusal
  syntax_error : (report : Report) → Refusal
  rendering_error : (report : Report) → Refusal
  circular_extend : (template : List ℕ) (chain : List (List ℕ)) → Refusal
  circular_include : (template : List ℕ) (chain : List (List ℕ)) → Refusal
  missing_parent : (current parent : List ℕ) → Refusal
  template_not_found : (name : List ℕ) → Refusal
  component_not_found : (name : List ℕ) → Refusal
  invalid_argument : (expected actual : List ℕ) → Refusal
  missing_argument : (name : List ℕ) → Refusal
  out_of_range : (value target : List ℕ) → Refusal
  writing_failed : (kind : IoKind) → Refusal
  not_utf8 : Refusal
  memory_refused : Refusal
  -- arithmetic
  operand_outside_i128 : (operand : ℤ) → Refusal
  not_exact : (left : ℤ) (operator : Operator) (right : ℤ) → Refusal
  divided_by_zero : Refusal
  exponent_outside_u32 : (exponent : ℤ) → Refusal
  negation_outside_i128 : (operand : ℤ) → Refusal
  -- a value that is no key, and a slice by no step
  not_a_key : Refusal
  step_of_zero : Refusal
  -- conversions: a number outside the type that is wanted, and one that no i128 holds
  number_out_of_range : (number : ℤ) (target : List ℕ) → Refusal
  number_outside_i128 : (number : ℤ) → Refusal
  -- a value of a kind that a call does not take: the name of its kind, and the words around it
  wrong_kind : (before actual behind : List ℕ) → Refusal

-- The refusals of a kind, one row each
abbrev pub not_a_number : List ℕ → Refusal
not_a_number actual =
    wrong_kind (codes "Only numbers can be used in arithmetic. This is a `") actual (codes "`")

abbrev pub negated_no_number : List ℕ → Refusal
negated_no_number actual =
    wrong_kind (codes "Only numbers can be negated. This is a `") actual (codes "`")

abbrev pub not_a_map_key : List ℕ → Refusal
not_a_map_key actual =
    wrong_kind (codes "Map keys must be strings, integers, or bools, got `") actual (codes "`.")

abbrev pub not_an_index : Container → List ℕ → Refusal
not_an_index container actual =
    wrong_kind (container_word container ++ codes " index must be an integer, got `") actual
    (codes "`.")

abbrev pub not_sliceable : List ℕ → Refusal
not_sliceable actual =
    wrong_kind (codes "Slicing can only be used on arrays or strings, not on `") actual (codes "`.")

abbrev pub not_reversible : List ℕ → Refusal
not_reversible actual = wrong_kind (codes "Value of type ") actual (codes " cannot be reversed")

abbrev pub not_a_container : List ℕ → Refusal
not_a_container actual =
    wrong_kind (codes "`in` cannot be used on a container of type `") actual
    (codes "`. It can only be used on arrays, strings and map/structs")

-- the words before the names of a chain
abbrev pub extend_words : List ℕ → List ℕ
extend_words template =
    codes "Circular extend detected for template '" ++ (template ++ codes "'. Inheritance chain: `")

abbrev pub include_words : List ℕ → List ℕ
include_words template =
    codes "Circular include detected for template '" ++ (template ++ codes "'. Include chain: `")

-- What is written for a refusal. It says nothing of the debug form of a name past ASCII, nor of the
-- name of a kind of io errors.
abbrev pub text_of : Refusal → Option (List ℕ)
text_of (message text) = Some text
text_of (syntax_error report) = Some (report_text report)
text_of (rendering_error report) = Some (report_text report)
text_of (circular_extend template chain) =
    Some (extend_words template) ++? debug_list debug_str chain ++? Some (codes "`")
text_of (circular_include template chain) =
    Some (include_words template) ++? debug_list debug_str chain ++? Some (codes "`")
text_of (missing_parent current parent) =
    Some (codes "Template '" ++ (current
    ++ (codes "' is inheriting from '"
    ++ (parent ++ codes "', which doesn't exist or isn't loaded."))))
text_of (template_not_found name) = Some (codes "Template '" ++ (name ++ codes "' not found"))
text_of (component_not_found name) = Some (codes "Component '" ++ (name ++ codes "' not found"))
text_of (invalid_argument expected actual) =
    Some (codes "Invalid type for the value, expected `"
    ++ (expected ++ (codes "` but got `" ++ (actual ++ codes "`"))))
text_of (missing_argument name) = Some (codes "Missing keyword argument `" ++ (name ++ codes "`"))
text_of (out_of_range value target) =
    Some (codes "Value `" ++ (value ++ (codes "` is out of range for `" ++ (target ++ codes "`"))))
text_of (writing_failed kind) = None
text_of not_utf8 = Some (codes "Invalid UTF-8 characters found while rendering.")
text_of memory_refused = Some (codes "Out of memory")
text_of (operand_outside_i128 operand) =
    Some (codes "Operand `" ++ (signed_decimal operand
    ++ codes "` is out of range for integer arithmetic (must fit in i128)"))
text_of (not_exact left operator right) =
    Some (codes "Unable to perform "
    ++ (signed_decimal left ++ (codes " " ++ (operator_text operator
    ++ (codes " " ++ signed_decimal right)))))
text_of divided_by_zero = Some (codes "Cannot divide by 0")
text_of (exponent_outside_u32 exponent) =
    Some (codes "Exponent " ++ (signed_decimal exponent
    ++ codes " is out of range for integer ** (must fit in u32)"))
text_of (negation_outside_i128 operand) =
    Some (codes "Cannot negate "
    ++ (signed_decimal operand ++ codes ": result would overflow i128"))
text_of not_a_key = Some (codes "Not a valid key type")
text_of step_of_zero = Some (codes "Slicing step cannot be 0")
text_of (number_out_of_range number target) =
    Some (codes "Value `" ++ (signed_decimal number
    ++ (codes "` is out of range for `" ++ (target ++ codes "`"))))
text_of (number_outside_i128 number) =
    Some (codes "Number `" ++ (signed_decimal number ++ codes "` is out of range for i128"))
text_of (wrong_kind before actual behind) = Some (before ++ (actual ++ behind))

-- the bytes are these words, then some that stand for the list of names, and a backquote
abbrev pub TellsChain : List ℕ → List (List ℕ) → List ℕ → Type 0
TellsChain words chain bytes =
    (names : List ℕ) × QuotesList chain names × (bytes ≡ words ++ (names ++ codes "`"))

-- The bytes tell the refusal: they are its text where that is known. Where it is not, they are the
-- words of the text around bytes that stand for the list of names, or before some bytes for the
-- name of the io kind.
abbrev pub Tells : Refusal → List ℕ → Type 0
Tells (circular_extend template chain) bytes = TellsChain (extend_words template) chain bytes
Tells (circular_include template chain) bytes = TellsChain (include_words template) chain bytes
Tells (writing_failed kind) bytes =
    (name : List ℕ) × (bytes ≡ codes "Io error while writing rendered value to output: " ++ name)
Tells refusal bytes = IsText (text_of refusal) bytes

-- what the error of a refusal states. What a kind states in words of its own is itself; a number
-- outside a type is stated by its digits; and every other refusal is a message of its whole text
abbrev pub stated : Refusal → Refusal
stated (message words) = message words
stated (syntax_error report) = syntax_error report
stated (rendering_error report) = rendering_error report
stated (circular_extend template chain) = circular_extend template chain
stated (circular_include template chain) = circular_include template chain
stated (missing_parent current parent) = missing_parent current parent
stated (template_not_found name) = template_not_found name
stated (component_not_found name) = component_not_found name
stated (invalid_argument expected actual) = invalid_argument expected actual
stated (missing_argument name) = missing_argument name
stated (out_of_range value target) = out_of_range value target
stated (writing_failed kind) = writing_failed kind
stated not_utf8 = not_utf8
stated memory_refused = memory_refused
stated (number_out_of_range number target) = out_of_range (signed_decimal number) target
stated refusal = message (unwrap_or (text_of refusal) [])

-- The name of the kind that a value really has, and the refusal with another name in its place
pub record Named : Type 0 where
  pub actual : List ℕ
  pub renamed : List ℕ → Refusal

-- where a refusal names the kind of a value
abbrev pub named : Refusal → Option Named
named (invalid_argument expected actual) =
    Some (record { actual = actual; renamed = λ name. invalid_argument expected name })
named (wrong_kind before actual behind) =
    Some (record { actual = actual; renamed = λ name. wrong_kind before name behind })
named refusal = None

abbrev pub actual_in : Refusal → List ℕ
actual_in refusal = unwrap_or (option_map (λ n. n.actual) (named refusal)) []

abbrev pub with_actual : Refusal → List ℕ → Refusal
with_actual refusal name = unwrap_or (option_map (λ n. n.renamed name) (named refusal)) refusal

-- the refusal without the name of the kind that a value really has
abbrev pub shape : Refusal → Refusal
shape refusal = with_actual refusal []
