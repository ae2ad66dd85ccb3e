use Rattle.std.proofs.Common.{refl}
use Rattle.tera_report.specs.Refusal.{Tells, writing_failed}
use Rattle.tera_report.proofs.PutLaws.{puts_these}
use Rattle.tera_report.proofs.errors.texts.put_io_kind.Goals as goal

pub returns : goal.returns
returns g c =
    puts_these g.S.Sink.takes g.S.Sink.fails (Tells (writing_failed c.args.kind)) _ _ _ _ (_, refl) c.put_all.ensures
