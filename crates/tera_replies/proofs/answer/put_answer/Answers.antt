-- What is put is the reply, and a line feed.
use Rattle.std.proofs.Common.{◌≡◌, rules, refl, ◌++◌, codes, map, Some}
use Rattle.std.specs.String.{string_bytes}
use Rattle.tera_context.specs.Call.{answer_of}
use Rattle.tera_meaning.specs.Answer.{found, texts, walked}
use Rattle.tera_report.proofs.PutLaws.{puts_these}
use Rattle.tera_replies.specs.Script.{ended}
use Rattle.tera_replies.proofs.answer.put_answer.Goals as goal

pub returns-in-Done : goal.returns-in-Done
returns-in-Done g c = puts_these g.W.Sink.takes g.W.Sink.fails _ c.put.result (codes "ok\n") _ _ (codes "ok", search rules, refl) c.put.ensures

pub returns-in-Found-None : goal.returns-in-Found-None
returns-in-Found-None g c =
    puts_these g.W.Sink.takes g.W.Sink.fails _ c.put-in-Found-None.result (codes "nothing\n") _ _ (codes "nothing", search rules, refl)
    c.put-in-Found-None.ensures

pub returns-in-Found-Some : goal.returns-in-Found-Some
returns-in-Found-Some g c =
    let is : answer_of c.args.answer.now ≡ found (Some c.in-Found-Some.value) = search rules in
    rw is c.put_value.ensures

pub returns-in-Text : goal.returns-in-Text
returns-in-Text g c =
    let line = codes "text " ++ c.as_str.result.now in
    puts_these g.W.Sink.takes g.W.Sink.fails _ c.put_line.result (ended line) _ _ (line, search rules, refl) c.put_line.ensures

pub returns-in-Texts : goal.returns-in-Texts
returns-in-Texts g c =
    let is : answer_of c.args.answer.now ≡ texts (map string_bytes c.in-Texts.names.items) = search rules in
    rw is (search rules)

pub returns-in-Walked : goal.returns-in-Walked
returns-in-Walked g c =
    let is : answer_of c.args.answer.now ≡ walked (map string_bytes c.in-Walked.names.items) = search rules in
    rw is (search rules)
