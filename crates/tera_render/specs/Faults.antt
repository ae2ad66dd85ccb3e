-- What is told where there is no page.
use Rattle.std.specs.Prelude.{◌≡◌, ℕ, Bool, List, ◌++◌, Err, codes}
use Rattle.tera.specs.Errors.{kind_of, refusal_of}
use Rattle.tera.specs.Outcome.{is_want}
use Rattle.tera.specs.Refusal.{Tells}
use Rattle.tera.specs.types.Error.{Error}
use Rattle.tera_render.specs.declared.fault.Fault.{Fault}
use Rattle.tera_render.specs.declared.fault.Fault.TheVariants.{NoMemory, NoPage, Refused}
use Rattle.tera_render.specs.declared.fault.Fault.TheVariants.{Unread}

-- whether the error is want of memory
abbrev pub wants : Error → Bool
wants e = is_want (Err (refusal_of (kind_of e)))

-- the text of the error, and a line feed
abbrev pub IsLine : Error → List ℕ → Type 0
IsLine e bytes =
    (text : List ℕ) × Tells (refusal_of (kind_of e)) text × (bytes ≡ text ++ codes "\n")

-- whose text is refused, and why
abbrev pub IsNamedLine : List ℕ → Error → List ℕ → Type 0
IsNamedLine name e bytes =
    (line : List ℕ) × IsLine e line × (bytes ≡ codes "error: " ++ (name ++ (codes ": " ++ line)))

abbrev pub IsTold : Fault → List ℕ → Type 0
IsTold (Unread name) bytes = bytes ≡ codes "error: cannot read " ++ (name.now ++ codes "\n")
IsTold NoMemory bytes = bytes ≡ codes "error: Out of memory\n"
IsTold (NoPage e) bytes = IsLine e bytes
IsTold (Refused name e) bytes = IsNamedLine name.now e bytes

-- 1 where the template or the document was not there to be judged
abbrev pub status_of : Fault → ℕ
status_of (Unread name) = 1
status_of NoMemory = 1
status_of (NoPage e) = 2
status_of (Refused name e) = 2
