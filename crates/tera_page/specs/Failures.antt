-- What is told where there is no page.
use Rattle.std.specs.Prelude.{◌≡◌, ◌⊎◌, ℕ, List, None, Result, Ok, Err}
use Rattle.tera.specs.Errors.{IsOutOfMemory, States}
use Rattle.tera.specs.Refusal.{Refusal, Tells, rendering_error, stated}
use Rattle.tera.specs.Report.{Report}
use Rattle.tera.specs.types.Error.{Error}
use Rattle.tera_page.specs.Places.{IsReportAt}
use Rattle.tera_page.specs.Rendering.{Failure, Pieces}
use Rattle.tera_page.specs.declared.failure.Failure as code

-- why a call does not give what it is to give: what is refused, and where; or want of memory
abbrev pub Fails : {X : Type 0} → Result X Failure → code.Failure → Type 0
Fails (Ok x) failed = IsOutOfMemory failed.error
Fails (Err failure) failed =
    IsOutOfMemory failed.error
    ⊎ (States (stated failure.why) None failed.error × (failed.from.now ≡ failure.from))

-- the error is a report that tells a refusal, at the rest of the source of that file
abbrev pub ReportsAt : List ℕ → List ℕ → List ℕ → Refusal → Error → Type 0
ReportsAt file source rest refusal e =
    (words : List ℕ) × (report : Report) × Tells refusal words
    × IsReportAt words file source rest report × States (rendering_error report) None e

-- the error of what has no page: a report of what is refused, where it stands; or want of memory
abbrev pub Reports : List ℕ → List ℕ → Pieces → Error → Type 0
Reports file source (Ok ps) e = IsOutOfMemory e
Reports file source (Err failure) e =
    IsOutOfMemory e ⊎ ReportsAt file source failure.from (stated failure.why) e
