use Rattle.tera_report.proofs.EscapeLaws.{one_decoding_each}
use Rattle.tera_report.proofs.escape.one_decoding.Goals as goal

pub returns : goal.returns
returns c = one_decoding_each
