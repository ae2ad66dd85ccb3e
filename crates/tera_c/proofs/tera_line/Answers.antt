-- The box goes back with what the line left in it.
use Rattle.std.proofs.Common.{rules, refl, ◌≡◌, None, Some, length, subst}
use Rattle.tera_c.specs.Sessions.{Hears, reply_of}
use Rattle.tera_c.specs.declared.session_state.SessionState.{SessionState}
use Rattle.tera_c.proofs.StateLemmas.{goes_where, not_closed, not_open, when_closed}
use Rattle.tera_c.proofs.tera_line.Goals as goal

pub returns-in-Some : goal.returns-in-Some
returns-in-Some c =
    let was : c.args.session.now.inner ≡ Some c.in-Some.inner.value = search rules in
    record {
      opened = goes_where _ _ c.in-Some.inner.value c.take-status.new.self
          (λ (old new : SessionState). Hears old c.args.line.now new c.take-status.result × (c.len.result ≡ length (reply_of new))) was c.of.ensures (
            subst (λ (s : SessionState). Hears s c.args.line.now c.take-status.new.self c.take-status.result) c.deref_mut.ensures.value c.take-status.ensures,
            search rules,
          );
      closed = not_closed _ c.in-Some.inner.value _ was;
    }

pub returns-in-None : goal.returns-in-None
returns-in-None c =
    let was : c.args.session.now.inner ≡ None = search rules in
    let shut : c.replace.new.dest.inner ≡ None = search rules in
    record { opened = not_open _ _ was; closed = when_closed _ _ was (shut, refl, refl) }
