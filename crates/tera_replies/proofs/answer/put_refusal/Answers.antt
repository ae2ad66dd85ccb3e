-- The word, what tells the refusal and the line feed are put in turn.
use Rattle.std.proofs.Common.{rules, refl, sym, append_assoc, ◌++◌, codes, Err}
use Rattle.std.proofs.lemmas.Result.{MatchResult-weaker}
use Rattle.tera_report.proofs.TellLaws.{some_telling}
use Rattle.tera_report.specs.{Errors.kind_of, Errors.refusal_of, Sink.OfSome}
use Rattle.tera_replies.specs.{Reply.IsReplyLine, Script.ended}
use Rattle.tera_replies.proofs.answer.put_refusal.Goals as goal

pub returns-in_err-put : goal.returns-in_err-put
returns-in_err-put g c =
    let (words, told) = some_telling (refusal_of (kind_of c.args.error.now)) in
    let failed = g.met.W.Sink.failed_early _ (codes "error: ") _ (ended words) c.in_err-put.ensures in
    let bad : OfSome g.W.Sink.fails (IsReplyLine (Err (refusal_of (kind_of c.args.error.now)))) c.args.out.now c.put.new.out =
    (codes "error: " ++ ended words, (codes "error: " ++ words, (words, told, refl), sym (append_assoc (codes "error: ") words (codes "\n"))), failed) in
    search rules

pub returns-in_err-put_words : goal.returns-in_err-put_words
returns-in_err-put_words g c =
    let (words, told, refused) = c.in_err-put_words.ensures in
    let failed = g.met.W.Sink.failed_early _ _ _ (codes "\n") (g.met.W.Sink.failed_later _ (codes "error: ") _ words _ c.in_ok-put.ensures refused) in
    let bad : OfSome g.W.Sink.fails (IsReplyLine (Err (refusal_of (kind_of c.args.error.now)))) c.args.out.now c.put_words.new.out =
    (ended (codes "error: " ++ words), (codes "error: " ++ words, (words, told, refl), refl), failed) in
    search rules

pub returns : goal.returns
returns g c =
    let (words, told, took) = c.in_ok-put_words.ensures in
    let first = g.met.W.Sink.joined _ (codes "error: ") _ words _ c.in_ok-put.ensures took in
    MatchResult-weaker c.put-2.result c.put-2.ensures
    (λ _ last. (ended (codes "error: " ++ words), (codes "error: " ++ words, (words, told, refl), refl), g.met.W.Sink.joined _ _ _ (codes "\n") _ first last))
    (λ _ bad. (
      ended (codes "error: " ++ words),
      (codes "error: " ++ words, (words, told, refl), refl),
      g.met.W.Sink.failed_later _ _ _ (codes "\n") _ first
          bad,
    ))
