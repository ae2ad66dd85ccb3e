-- What the report is made of.
use Rattle.std.proofs.Common.{rules, ◌≡◌, [], codes, string_bytes, ap, ◌∙◌}
use Rattle.std.proofs.lemmas.Result.{IfOk-weaker}
use Rattle.tera_c.specs.Lines.{line_end}
use Rattle.tera_c.proofs.line.feed_report.Goals as goal

pub returns-clause-ok : goal.returns-clause-ok
returns-clause-ok c =
    let source = c.shown_source-source.ensures in
    let span = c.line_end-span.ensures ∙ ap line_end source in
    let message : string_bytes c.in_ok-message.message ≡ codes "bad line: a line feed stands inside it" = search rules in
    IfOk-weaker c.new.result _ _
    (λ made is. is ∙ (λ i. record { message = message i; file = codes "line 1"; source = source i; span = span i; notes = [] })) c.new.ensures.ok
