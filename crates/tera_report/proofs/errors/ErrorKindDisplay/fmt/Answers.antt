use Rattle.tera_report.specs.Errors.{refusal_of}
use Rattle.tera_report.specs.Refusal.{Tells}
use Rattle.tera_report.proofs.TellLaws.{displays_plain, displays_styled, told_known}
use Rattle.tera_report.proofs.errors.ErrorKindDisplay.fmt.Goals as goal

pub returns-clause-writes : goal.returns-clause-writes
returns-clause-writes g c =
    let refusal = refusal_of c.args.self.now in
    displays_plain g.W.Write.write_str_gives (Tells refusal) _ _ _ _ (told_known refusal) c.tell_to.ensures

pub returns-clause-styled : goal.returns-clause-styled
returns-clause-styled g c =
    let refusal = refusal_of c.args.self.now in
    displays_styled g.W.Write.write_str_gives (Tells refusal) _ _ _ _ (told_known refusal) c.tell_to.ensures
