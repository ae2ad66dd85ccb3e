use Rattle.tera_report.proofs.TellLaws.{some_telling, told_known, text_tells, telling_stated}
use Rattle.tera_report.proofs.errors.refusals.refusals_are_told_by_their_text.Goals as goal

pub returns : goal.returns
returns c = record {
  some = some_telling;
  text = told_known;
  known = text_tells;
  stated = telling_stated;
  io = λ kind bytes told. told;
  extend = λ chain bytes told. told;
  include = λ chain bytes told. told;
}
