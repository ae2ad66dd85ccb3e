use Rattle.tera_meaning.specs.Meaning.{layout}
use Rattle.tera_meaning.specs.Quoted.{Prints}
use Rattle.tera_report.proofs.TellLaws.{displays_plain, displays_styled}
use Rattle.tera_values.specs.Print.{printed_if_exact}
use Rattle.tera_values.proofs.ConvertLemmas.{printed_is_text}
use Rattle.tera_values.proofs.print.ValueDisplay.fmt.Goals as goal

pub returns-clause-writes : goal.returns-clause-writes
returns-clause-writes g c =
    let x = layout c.args.self.now in
    displays_plain g.W.Write.write_str_gives (Prints x) c.args.f.now c.put_whole.new.out (printed_if_exact x) c.put_whole.result
    (printed_is_text x) c.put_whole.ensures

pub returns-clause-styled : goal.returns-clause-styled
returns-clause-styled g c =
    let x = layout c.args.self.now in
    displays_styled g.W.Write.write_str_gives (Prints x) c.args.f.now c.put_whole.new.out (printed_if_exact x) c.put_whole.result
    (printed_is_text x) c.put_whole.ensures
