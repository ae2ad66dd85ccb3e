use Rattle.std.proofs.Common.{refl}
use Rattle.tera_cli.proofs.diagnostics.reason.Goals as goal

pub returns-then-why : goal.returns-then-why
returns-then-why c = rw (c.if-why.true) (c.expected.result, c.expected.ensures, refl)
