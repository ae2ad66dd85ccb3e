use Rattle.std.proofs.Common.{rules, refl, ◌++◌, codes}
use Rattle.std.proofs.lemmas.Result.{MatchResult-weaker}
use Rattle.tera_report.specs.Errors.{kind_of, refusal_of}
use Rattle.tera_report.proofs.PutLaws.{failed_of}
use Rattle.tera_report.proofs.TellLaws.{some_telling}
use Rattle.tera_cli.specs.Saved.{IsErrorLine}
use Rattle.tera_cli.proofs.saved.put_error.Goals as goal

pub returns-in_err-put : goal.returns-in_err-put
returns-in_err-put g c =
    let refusal = refusal_of (kind_of c.args.error.now) in
    let some = some_telling refusal in
    let failed = g.met.E.Sink.failed_early _ _ _ (some.0 ++ codes "\n") c.in_err-put.ensures in
    let bad = failed_of g.E.Sink.fails (IsErrorLine refusal) _ _ _ (some.0, some.1, refl) failed in
    search rules

pub returns-in_err-tell_to : goal.returns-in_err-tell_to
returns-in_err-tell_to g c =
    let (text, tells, refused) = c.in_err-tell_to.ensures in
    let failed = g.met.E.Sink.failed_later _ _ _ _ _ c.in_ok-put.ensures (g.met.E.Sink.failed_early _ _ _ (codes "\n") refused) in
    let bad = failed_of g.E.Sink.fails (IsErrorLine (refusal_of (kind_of c.args.error.now))) _ _ _ (text, tells, refl) failed in
    search rules

pub returns : goal.returns
returns g c =
    let (text, tells, took) = c.in_ok-tell_to.ensures in
    MatchResult-weaker c.put-2.result c.put-2.ensures
    (λ _ last. (_, (text, tells, refl), g.met.E.Sink.joined _ _ _ _ _ c.in_ok-put.ensures (g.met.E.Sink.joined _ _ _ _ _ took last)))
    (λ _ bad. (_, (text, tells, refl), g.met.E.Sink.failed_later _ _ _ _ _ c.in_ok-put.ensures (g.met.E.Sink.failed_later _ _ _ _ _ took bad)))
