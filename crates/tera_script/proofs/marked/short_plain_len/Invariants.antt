use Rattle.tera_script.specs.inner.Marked.{IsPlainUpTo}
use Rattle.tera_script.proofs.marked.short_plain_len.Given as goal

abbrev pub invariant-loop-at : goal.invariant-loop-at
invariant-loop-at l = IsPlainUpTo l.most l.bytes l.at
