-- The box goes back with what the call left in it.
use Rattle.std.proofs.Common.{rules, ◌≡◌, Some, subst}
use Rattle.tera_c.specs.Values.{Saves}
use Rattle.tera_c.specs.declared.session_state.SessionState.{SessionState}
use Rattle.tera_c.proofs.StateLemmas.{goes_where}
use Rattle.tera_c.proofs.values.tera_save.Goals as goal

pub returns-in-Some-clause-opened : goal.returns-in-Some-clause-opened
returns-in-Some-clause-opened c =
    let was : c.args.session.now.inner ≡ Some c.in-Some.inner.value = search rules in
    let status = c.give_script-status in
    goes_where _ _ c.in-Some.inner.value status.new.self
    (λ (old new : SessionState). Saves old new c.args.room.now status.new.room status.new.len status.result)
    was c.of.ensures
    (subst (λ (s : SessionState). Saves s status.new.self c.args.room.now status.new.room status.new.len status.result)
    c.deref_mut.ensures.value status.ensures)
