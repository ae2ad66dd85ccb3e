use Rattle.tera_report.proofs.PartLaws.{these_are_parts, only_these_are_parts}
use Rattle.tera_report.proofs.report.laws.parts_are_the_only_ones.Goals as goal

pub returns-clause-are : goal.returns-clause-are
returns-clause-are c separator text = these_are_parts separator text

pub returns-clause-only : goal.returns-clause-only
returns-clause-only c separator text parts are = only_these_are_parts separator text parts are
