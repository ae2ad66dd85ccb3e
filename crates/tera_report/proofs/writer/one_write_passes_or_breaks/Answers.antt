use Rattle.std.proofs.Common.{length, take, refl, ◌∙◌, append-nil, Ok}
use Rattle.std.proofs.Math.Seq.{take-length}
use Rattle.tera_report.specs.inner.WriterLaws.{once}
use Rattle.tera_report.proofs.WriterLemmas.{some_length, breaks_on_none, breaks_on_error, passes_again}
use Rattle.tera_report.proofs.writer.one_write_passes_or_breaks.Goals as goal

pub returns : goal.returns
returns g c = record {
  whole = λ old bytes new some one. record {
    attempts = once bytes (Ok (length bytes));
    calls = (new, one, refl);
    whole = append-nil (take (length bytes) bytes) ∙ take-length bytes;
    steady = (some_length bytes some, tt);
  };
  none = breaks_on_none g.W.Writer.wrote;
  refused = breaks_on_error g.W.Writer.wrote;
  again = passes_again g.W.Writer.wrote;
}
