-- By the lemmas on steps of any states.
use Rattle.tera.proofs.SteppedLaws.{stepped_joined, stepped_keeps, stepped_refused, stepped_refuses, stepped_through}
use Rattle.tera.proofs.laws.stepped.steps_that_go_through_refuse_none.Goals as goal

pub returns-clause-joined : goal.returns-clause-joined
returns-clause-joined g c = stepped_joined

pub returns-clause-through : goal.returns-clause-through
returns-clause-through g c = stepped_through

pub returns-clause-refused : goal.returns-clause-refused
returns-clause-refused g c = stepped_refused

pub returns-clause-refuses : goal.returns-clause-refuses
returns-clause-refuses g c = stepped_refuses

pub returns-clause-kept : goal.returns-clause-kept
returns-clause-kept g c = stepped_keeps
