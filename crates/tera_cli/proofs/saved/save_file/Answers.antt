use Rattle.std.proofs.Common.{inr, refl}
use Rattle.tera_cli.proofs.SavedLemmas.{unsaved}
use Rattle.tera_cli.proofs.saved.save_file.Goals as goal

pub returns-in-Err : goal.returns-in-Err
returns-in-Err g c =
    let (bytes, line, comes) = c.tell_error.ensures in
    inr (refl, (bytes, unsaved _ c.in-Err.error bytes c.in-Err.ensures.err line, comes))
