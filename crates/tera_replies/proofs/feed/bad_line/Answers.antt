use Rattle.std.proofs.Common.{rules, ◌≡◌, ◌++◌, [], codes, string_bytes, ap, ◌∙◌}
use Rattle.std.specs.Fmt.{decimal}
use Rattle.tera_report.specs.Errors.{report_of}
use Rattle.tera_replies.specs.Replay.{whole_line}
use Rattle.tera_replies.proofs.feed.bad_line.Goals as goal

pub returns-in-Ok-clause-same : goal.returns-in-Ok-clause-same
returns-in-Ok-clause-same c =
    let source = c.shown_source-source.ensures in
    let span = c.whole_line-span.ensures ∙ ap whole_line source in
    let message : string_bytes c.in_ok-message.message ≡ codes "bad line" = search rules in
    let file : c.as_str.result.now ≡ codes "line " ++ decimal c.args.number =
    c.as_str.ensures.value ∙ c.in_ok-filename.ensures in
    ap report_of c.in_ok-new-in-Ok.ensures.ok ∙ c.in-Ok.ensures.ok
    ∙ (λ i. record { message = message i; file = file i; source = source i; span = span i; notes = [] })
