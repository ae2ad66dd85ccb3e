use Rattle.std.proofs.Common.{ℕ, List, inl, subst}
use Rattle.tera_cli.specs.Saved.{Saves}
use Rattle.tera_cli.proofs.saved.save.Goals as goal

pub returns-in-Ok : goal.returns-in-Ok
returns-in-Ok g c = inl (
  c.in-Ok.ensures.cases.1,
  subst
      (λ (name : List ℕ). Saves g.F.Files.wrote g.E.Sink.takes g.E.Sink.fails c.args.context.now name c.args.files.now c.args.err.now
      c.save_file.new.files c.save_file.new.err)
      c.in-Ok.ensures.cases.0 c.save_file.ensures,
)
