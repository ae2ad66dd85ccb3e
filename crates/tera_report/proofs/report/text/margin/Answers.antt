use Rattle.std.proofs.Common.{◌∙◌, arith, length}
use Rattle.tera_report.specs.Report.{space}
use Rattle.tera_report.proofs.ReportLemmas.{run_cut, run_front}
use Rattle.tera_report.proofs.report.text.margin.Goals as goal

pub range-requires-clause-end_boundary : goal.range-requires-clause-end_boundary
range-requires-clause-end_boundary c = run_cut 40 (length c.args.number.now) space (omega arith) c.requires

pub returns : goal.returns
returns c = c.range.ensures.value ∙ run_front 40 (length c.args.number.now) space c.requires
