-- What is not read stands in the text.
use Rattle.tera_page.proofs.Endings.{behind_parts}
use Rattle.tera_page.proofs.Faults.{exit_fault}
use Rattle.tera_page.proofs.syntax.read_template.Goals as goal
use Rattle.tera_page.specs.View.{parts_of}

pub returns-in_err-read-clause-err : goal.returns-in_err-read-clause-err
returns-in_err-read-clause-err c =
    exit_fault c.from_residual.result _ c.in_err-read.field-0.0 c.from_residual.ensures c.in_err-read.ensures.err

pub returns-in-Some-clause-err : goal.returns-in-Some-clause-err
returns-in-Some-clause-err c =
    behind_parts (parts_of c.in_ok-read.read.nodes.items) c.args.text.now c.in_ok-read.read.at.now c.in_ok-read.ensures.ok.0
