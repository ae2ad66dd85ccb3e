-- The word, the printed text and the line feed are put in turn.
use Rattle.std.proofs.Common.{ℕ, List, rules, refl, sym, append_assoc, ◌++◌, codes, Ok}
use Rattle.std.proofs.lemmas.Result.{MatchResult-weaker}
use Rattle.tera_context.specs.Lent.{printed}
use Rattle.tera_meaning.specs.Answer
use Rattle.tera_meaning.specs.{Form.Form, Meaning.layout, Quoted.Prints}
use Rattle.tera_meaning.proofs.QuotedLaws.{alone_prints}
use Rattle.tera_meaning.specs.Printed as prints
use Rattle.tera_report.specs.Sink.{OfSome}
use Rattle.tera_replies.specs.{Reply.IsLentLine, Script.ended}
use Rattle.tera_replies.proofs.answer.put_printed.Goals as goal

-- the line behind the word is one for what is printed
is_line : (v : Form) (text : List ℕ) → Prints (layout v) text → IsLentLine (printed v) (ended (codes "text " ++ text))
is_line v text is = (Ok (Answer.text text), (text, is, refl), (codes "text " ++ text, refl, refl))

pub returns-in_err-put : goal.returns-in_err-put
returns-in_err-put g c =
    let v = c.args.value.now in
    let text = prints.printed (layout v) in
    let failed = g.met.W.Sink.failed_early _ (codes "text ") _ (ended text) c.in_err-put.ensures in
    let bad : OfSome g.W.Sink.fails (IsLentLine (printed v)) c.args.out.now c.put.new.out = (
      codes "text " ++ ended text,
      (Ok (Answer.text text), (text, alone_prints (layout v), refl), (codes "text " ++ text, refl, sym (append_assoc (codes "text ") text (codes "\n")))),
      failed,
    ) in
    search rules

pub returns-in_err-put_text : goal.returns-in_err-put_text
returns-in_err-put_text g c =
    let v = c.args.value.now in
    let (text, is, refused) = c.in_err-put_text.ensures in
    let failed = g.met.W.Sink.failed_early _ _ _ (codes "\n") (g.met.W.Sink.failed_later _ (codes "text ") _ text _ c.in_ok-put.ensures refused) in
    let bad : OfSome g.W.Sink.fails (IsLentLine (printed v)) c.args.out.now c.put_text.new.out =
    (ended (codes "text " ++ text), is_line v text is, failed) in
    search rules

pub returns : goal.returns
returns g c =
    let v = c.args.value.now in
    let (text, is, took) = c.in_ok-put_text.ensures in
    let first = g.met.W.Sink.joined _ (codes "text ") _ text _ c.in_ok-put.ensures took in
    MatchResult-weaker c.put-2.result c.put-2.ensures
    (λ _ last. (ended (codes "text " ++ text), is_line v text is, g.met.W.Sink.joined _ _ _ (codes "\n") _ first last))
    (λ _ bad. (ended (codes "text " ++ text), is_line v text is, g.met.W.Sink.failed_later _ _ _ (codes "\n") _ first bad))
