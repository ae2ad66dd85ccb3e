-- Numbers that are counted, up to what is none.
use Rattle.std.specs.Prelude.{ℕ, ◌+◌, ◌++◌, codes, is_some, if◌then◌else◌, Result, Ok, Err}
use Rattle.std.specs.Fmt.{decimal}
use Rattle.tera.specs.Form.{Form}
use Rattle.tera.specs.Read.{number_in}
use Rattle.tera.specs.Refusal.{Refusal, message}

-- the refusal of what stands at a place
abbrev pub no_number : ℕ → Refusal
no_number place = message (codes "item " ++ decimal place ++ codes " is no number")

-- the place behind a number, and the refusal of what is none
abbrev pub counted : ℕ → Form → Result ℕ Refusal
counted place value = if is_some (number_in value) then Ok (place + 1) else Err (no_number place)
