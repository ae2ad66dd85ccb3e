-- The reports of which a copy takes no memory.
use Rattle.std.specs.Prelude.{◌≡◌, []}
use Rattle.tera_report.specs.Report.{Report}

-- the texts are empty, and there are no notes
abbrev pub IsEmptyReport : Report → Type 0
IsEmptyReport report =
    (report.message ≡ []) × (report.file ≡ []) × (report.source ≡ []) × (report.notes ≡ [])
