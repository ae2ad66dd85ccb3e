-- The text of an error and a line feed that are put in turn are put as one.
use Rattle.std.proofs.Common.{◌++◌, codes, refl, rules}
use Rattle.tera.proofs.PutBytesLaws.{puts_after, puts_these}
use Rattle.tera.specs.Sink.{OfSome}
use Rattle.tera_render.proofs.fault.put_line.Goals as goal
use Rattle.tera_render.specs.Faults.{IsLine}

pub returns-in_err-tell_to : goal.returns-in_err-tell_to
returns-in_err-tell_to g c =
    let (text, tells, failed) = c.in_err-tell_to.ensures in
    let bad : OfSome g.E.Sink.fails (IsLine c.args.error.now) c.args.err.now c.tell_to.new.out =
    (text ++ codes "\n", (text, tells, refl), g.met.E.Sink.failed_early _ _ _ (codes "\n") failed) in
    search rules

pub returns : goal.returns
returns g c =
    let (text, tells, took) = c.in_ok-tell_to.ensures in
    puts_these g.E.Sink.takes g.E.Sink.fails (IsLine c.args.error.now) c.put.result (text ++ codes "\n") _ _ (text, tells, refl)
    (puts_after g.E.Sink.takes g.E.Sink.fails g.met.E.Sink.joined g.met.E.Sink.failed_later c.put.result text (codes "\n") _ _ _ _ refl took c.put.ensures)
