-- The word, the texts and the line feed are put in turn.
use Rattle.std.proofs.Common.{rules, refl, sym, append_assoc, ◌++◌, codes, map}
use Rattle.std.proofs.lemmas.Result.{MatchResult-weaker}
use Rattle.std.specs.String.{string_bytes}
use Rattle.tera_report.specs.Sink.{OfSome}
use Rattle.tera_replies.specs.{Reply.IsListedLine, Script.ended}
use Rattle.tera_report.proofs.QuoteLaws.{some_list}
use Rattle.tera_replies.proofs.answer.put_texts.Goals as goal

pub returns-in_err-put : goal.returns-in_err-put
returns-in_err-put g c =
    let word = c.args.word.now in
    let (listed, is) = some_list (map string_bytes c.args.texts.now) in
    let failed = g.met.W.Sink.failed_early _ word _ (ended listed) c.in_err-put.ensures in
    let bad : OfSome g.W.Sink.fails (IsListedLine word (map string_bytes c.args.texts.now)) c.args.out.now c.put.new.out =
    (word ++ ended listed, (word ++ listed, (listed, is, refl), sym (append_assoc word listed (codes "\n"))), failed) in
    search rules

pub returns-in_err-put_list : goal.returns-in_err-put_list
returns-in_err-put_list g c =
    let word = c.args.word.now in
    let (listed, is, refused) = c.in_err-put_list.ensures in
    let failed = g.met.W.Sink.failed_early _ _ _ (codes "\n") (g.met.W.Sink.failed_later _ word _ listed _ c.in_ok-put.ensures refused) in
    let bad : OfSome g.W.Sink.fails (IsListedLine word (map string_bytes c.args.texts.now)) c.args.out.now c.put_list.new.out =
    (ended (word ++ listed), (word ++ listed, (listed, is, refl), refl), failed) in
    search rules

pub returns : goal.returns
returns g c =
    let word = c.args.word.now in
    let (listed, is, took) = c.in_ok-put_list.ensures in
    let first = g.met.W.Sink.joined _ word _ listed _ c.in_ok-put.ensures took in
    MatchResult-weaker c.put-2.result c.put-2.ensures
    (λ _ last. (ended (word ++ listed), (word ++ listed, (listed, is, refl), refl), g.met.W.Sink.joined _ _ _ (codes "\n") _ first last))
    (λ _ bad. (ended (word ++ listed), (word ++ listed, (listed, is, refl), refl), g.met.W.Sink.failed_later _ _ _ (codes "\n") _ first bad))
