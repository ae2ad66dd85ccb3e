-- What is put is the reply, and a line feed.
use Rattle.std.proofs.Common.{rules, refl, ◌++◌, codes, decimal}
use Rattle.tera_report.proofs.PutLaws.{puts_these}
use Rattle.tera_replies.specs.Script.{ended}
use Rattle.tera_replies.proofs.answer.put_known.Goals as goal

pub returns-in-Truth-true : goal.returns-in-Truth-true
returns-in-Truth-true g c =
    puts_these g.W.Sink.takes g.W.Sink.fails _ c.put.result (codes "true\n") _ _ (codes "true", search rules, refl) c.put.ensures

pub returns-in-Truth-false : goal.returns-in-Truth-false
returns-in-Truth-false g c =
    puts_these g.W.Sink.takes g.W.Sink.fails _ c.put-in-Truth-false.result (codes "false\n") _ _ (codes "false", search rules, refl)
    c.put-in-Truth-false.ensures

pub returns-in-Size-None : goal.returns-in-Size-None
returns-in-Size-None g c =
    puts_these g.W.Sink.takes g.W.Sink.fails _ c.put-in-Size-None.result (codes "nothing\n") _ _ (codes "nothing", search rules, refl)
    c.put-in-Size-None.ensures

pub returns-in-Size-Some : goal.returns-in-Size-Some
returns-in-Size-Some g c =
    let line = codes "size " ++ decimal c.in-Size-Some.size in
    puts_these g.W.Sink.takes g.W.Sink.fails _ c.put_size.result (ended line) _ _ (line, search rules, refl) c.put_size.ensures

pub returns-in-Kind : goal.returns-in-Kind
returns-in-Kind g c =
    let line = codes "kind " ++ c.name.result.now in
    puts_these g.W.Sink.takes g.W.Sink.fails _ c.put_line.result (ended line) _ _ (line, search rules, refl) c.put_line.ensures
