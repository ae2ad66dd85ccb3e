-- What is told of a fault of the text.
use Rattle.tera_page.proofs.Faults.{told_error}
use Rattle.tera_page.proofs.syntax.parse_named.Goals as goal

pub returns-in-Err-clause-err : goal.returns-in-Err-clause-err
returns-in-Err-clause-err c =
    told_error c.args.name.now c.args.text.now c.in-Err.fault c.into_error.result c.in-Err.ensures.err c.into_error.ensures.tells
