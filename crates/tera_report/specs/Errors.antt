-- What an `Error` holds, and which refusal it is.
use Rattle.std.specs.Prelude.{◌≡◌, [], map, Option, None, Result, Ok, Err}
use Rattle.std.specs.Prelude.{string_bytes, ◌⊎◌, ⊤}
use Rattle.anyhow.specs.declared.error.Error.{Error as Cause}
use Rattle.tera_report.specs.declared.errors.ErrorKind.{ErrorKind}
use Rattle.tera_report.specs.declared.errors.ErrorKind.TheVariants.{Msg, SyntaxError}
use Rattle.tera_report.specs.declared.errors.ErrorKind.TheVariants.{RenderingError, CircularExtend}
use Rattle.tera_report.specs.declared.errors.ErrorKind.TheVariants.{CircularInclude, MissingParent}
use Rattle.tera_report.specs.declared.errors.ErrorKind.TheVariants.{TemplateNotFound}
use Rattle.tera_report.specs.declared.errors.ErrorKind.TheVariants.{ComponentNotFound}
use Rattle.tera_report.specs.declared.errors.ErrorKind.TheVariants.{InvalidArgument}
use Rattle.tera_report.specs.declared.errors.ErrorKind.TheVariants.{MissingArgument}
use Rattle.tera_report.specs.declared.errors.ErrorKind.TheVariants.{OutOfRangeArgument, Io}
use Rattle.tera_report.specs.declared.errors.ErrorKind.TheVariants.{Utf8Conversion, OutOfMemory}
use Rattle.tera_report.specs.declared.errors.Error.{Error}
use Rattle.tera_report.specs.declared.report.Note.{Note as NoteHeld}
use Rattle.tera_report.specs.declared.report.ReportError.{ReportError}
use Rattle.tera_report.specs.Report.{Note, Report}
use Rattle.tera_report.specs.Refusal

-- the kind of an error
abbrev pub kind_of : Error → ErrorKind
kind_of e = e.kind

-- the error that caused it, if there is one
abbrev pub source_of : Error → Option Cause
source_of e = e.source

-- the error of that kind without a cause
abbrev pub plain_error : ErrorKind → Error
plain_error kind = record { kind = kind; source = None }

-- what every call that takes memory may answer in place of anything else
abbrev pub out_of_memory : Error
out_of_memory = plain_error OutOfMemory

-- the error says that memory was refused, and nothing else
abbrev pub IsOutOfMemory : Error → Type 0
IsOutOfMemory e = e ≡ out_of_memory

-- the kind holds no text but empty ones, and no report, so a copy of it takes no memory
abbrev pub HoldsNoText : ErrorKind → Type 0
HoldsNoText (Msg text) = string_bytes text ≡ []
HoldsNoText (SyntaxError report) = ⊥
HoldsNoText (RenderingError report) = ⊥
HoldsNoText (CircularExtend tpl chain) = (string_bytes tpl ≡ []) × (chain.items ≡ [])
HoldsNoText (CircularInclude tpl chain) = (string_bytes tpl ≡ []) × (chain.items ≡ [])
HoldsNoText (MissingParent current parent) =
    (string_bytes current ≡ []) × (string_bytes parent ≡ [])
HoldsNoText (TemplateNotFound name) = string_bytes name ≡ []
HoldsNoText (ComponentNotFound name) = string_bytes name ≡ []
HoldsNoText (InvalidArgument expected actual) =
    (string_bytes expected ≡ []) × (string_bytes actual ≡ [])
HoldsNoText (MissingArgument name) = string_bytes name ≡ []
HoldsNoText (OutOfRangeArgument value target) =
    (string_bytes value ≡ []) × (string_bytes target ≡ [])
HoldsNoText (Io kind) = ⊤
HoldsNoText Utf8Conversion = ⊤
HoldsNoText OutOfMemory = ⊤

-- what a note and a report hold
abbrev pub note_of : NoteHeld → Note
note_of note =
    record {
      label = string_bytes note.label;
      file = string_bytes note.filename;
      source = string_bytes note.source;
      span = note.span;
    }

abbrev pub report_of : ReportError → Report
report_of e =
    record {
      message = string_bytes e.message;
      file = string_bytes e.filename;
      source = string_bytes e.source;
      span = e.span;
      notes = map note_of e.notes.items;
    }

-- the refusal that a kind states
abbrev pub refusal_of : ErrorKind → Refusal.Refusal
refusal_of (Msg text) = Refusal.message (string_bytes text)
refusal_of (SyntaxError report) = Refusal.syntax_error (report_of report.value)
refusal_of (RenderingError report) = Refusal.rendering_error (report_of report.value)
refusal_of (CircularExtend tpl chain) =
    Refusal.circular_extend (string_bytes tpl) (map string_bytes chain.items)
refusal_of (CircularInclude tpl chain) =
    Refusal.circular_include (string_bytes tpl) (map string_bytes chain.items)
refusal_of (MissingParent current parent) =
    Refusal.missing_parent (string_bytes current) (string_bytes parent)
refusal_of (TemplateNotFound name) = Refusal.template_not_found (string_bytes name)
refusal_of (ComponentNotFound name) = Refusal.component_not_found (string_bytes name)
refusal_of (InvalidArgument expected actual) =
    Refusal.invalid_argument (string_bytes expected) (string_bytes actual)
refusal_of (MissingArgument name) = Refusal.missing_argument (string_bytes name)
refusal_of (OutOfRangeArgument value target) =
    Refusal.out_of_range (string_bytes value) (string_bytes target)
refusal_of (Io kind) = Refusal.writing_failed kind
refusal_of Utf8Conversion = Refusal.not_utf8
refusal_of OutOfMemory = Refusal.memory_refused

-- the error states this refusal, and this error caused it
pub record States (refusal : Refusal.Refusal) (cause : Option Cause) (e : Error) : Type 0 where
  pub kind : refusal_of (kind_of e) ≡ refusal
  pub source : source_of e ≡ cause

-- the error of this refusal without a cause; or want of memory, where its texts found none
abbrev pub Raises : Refusal.Refusal → Error → Type 0
Raises refusal e = States refusal None e ⊎ IsOutOfMemory e

-- the error states just this refusal, without a cause. Want of memory is shown by its own kind
-- alone
abbrev pub Shows : Refusal.Refusal → Error → Type 0
Shows refusal e = States (Refusal.stated refusal) None e

-- the error of a call that is to give this: of its refusal, or want of memory in its place; and
-- where nothing is refused want of memory alone
abbrev pub Refuses : {X : Type 0} → Result X Refusal.Refusal → Error → Type 0
Refuses (Ok x) e = IsOutOfMemory e
Refuses (Err refusal) e = Raises (Refusal.stated refusal) e
