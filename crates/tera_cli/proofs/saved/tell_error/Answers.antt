use Rattle.tera_report.specs.Errors.{kind_of, refusal_of}
use Rattle.tera_cli.specs.Saved.{IsErrorLine}
use Rattle.tera_cli.proofs.SavedLemmas.{some_comes}
use Rattle.tera_cli.proofs.saved.tell_error.Goals as goal

pub returns : goal.returns
returns g c =
    some_comes g.E.Sink.takes g.E.Sink.fails c.put_error.result (IsErrorLine (refusal_of (kind_of c.args.error.now))) _ _ c.put_error.ensures
