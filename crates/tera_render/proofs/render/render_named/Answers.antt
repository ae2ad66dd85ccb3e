-- The page that is sent.
use Rattle.std.proofs.Common.{inl, subst}
use Rattle.std.specs.String.{string_bytes}
use Rattle.tera_render.proofs.render.render_named.Goals as goal
use Rattle.tera_render.specs.Rendered.{SendsPage}

pub returns-in-Ok : goal.returns-in-Ok
returns-in-Ok g c =
    let sent = subst (λ page. SendsPage g.W.Sink.takes g.W.Sink.fails g.W.Sink.flushes g.W.Sink.flush_fails g.E.Sink.takes g.E.Sink.fails page
    (c.args.out.now, c.args.err.now) c.send.result (c.send.new.out, c.send.new.err)) c.as_str.ensures.value c.send.ensures in
    inl (string_bytes c.in-Ok.text, c.in-Ok.ensures.ok, sent)
