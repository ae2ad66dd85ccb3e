-- The names that were put are those of the context.
use Rattle.std.proofs.Common.{◌≡◌, ◌∙◌, [], ap, inl, inr, refl, subst}
use Rattle.std.specs.FinMap.{keys}
use Rattle.std.proofs.lemmas.Result.{IfErr-weaker, on_ok_weaker}
use Rattle.tera_report.proofs.SentLaws.{sends_nothing, sends_put}
use Rattle.tera_cli.specs.Names.{IsListOf}
use Rattle.tera_cli.proofs.NameLemmas.{names_in, names_of}
use Rattle.tera_cli.proofs.names.show_names.Goals as goal

pub returns-in-Ok-put_names-clause-ok : goal.returns-in-Ok-put_names-clause-ok
returns-in-Ok-put_names-clause-ok g c =
    let same : names_in c.as_slice.result.now ≡ keys c.args.context.now =
    ap names_in c.as_slice.ensures.value ∙ names_of c.in-Ok.entries.items c.args.context.now c.in-Ok.ensures.ok in
    let (text, lists, took) = c.in-Ok-put_names.ensures in
    on_ok_weaker c.pass_on.result
    (λ passed. inl ((text, subst (λ names. IsListOf names text) same lists, (_, sends_put g.W.Sink.takes g.W.Sink.flushes _ text _ took, passed)), refl))
    c.pass_on.ensures.ok

pub returns-in-Ok-put_names-clause-err : goal.returns-in-Ok-put_names-clause-err
returns-in-Ok-put_names-clause-err g c =
    let same : names_in c.as_slice.result.now ≡ keys c.args.context.now =
    ap names_in c.as_slice.ensures.value ∙ names_of c.in-Ok.entries.items c.args.context.now c.in-Ok.ensures.ok in
    let (text, lists, took) = c.in-Ok-put_names.ensures in
    let all = subst (λ names. IsListOf names text) same lists in
    let sends = sends_put g.W.Sink.takes g.W.Sink.flushes _ text _ took in
    IfErr-weaker c.pass_on.result _ _
    (λ fault h. (h.0, refl, (text, all, record { front = text; sent = _; sends = sends; fault = inr (refl, h.1) })))
    c.pass_on.ensures.err

pub returns-clause-err : goal.returns-clause-err
returns-clause-err g c =
    let same : names_in c.as_slice.result.now ≡ keys c.args.context.now =
    ap names_in c.as_slice.ensures.value ∙ names_of c.in-Ok.entries.items c.args.context.now c.in-Ok.ensures.ok in
    let (text, lists, refused) = c.in-Err.ensures in
    let all = subst (λ names. IsListOf names text) same lists in (
      refl,
      refl,
      (text, all, record { front = []; sent = _; sends = sends_nothing g.W.Sink.takes g.W.Sink.flushes _; fault = inl (text, refl, refused) }),
    )
