use Rattle.std.proofs.Common.{ap, sym, ◌∙◌}
use Rattle.tera_values.specs.inner.Map.{pairs_in}
use Rattle.tera_values.proofs.ColumnLemmas.{no_columns}
use Rattle.tera_values.proofs.map.Map.lists.Goals as goal

pub returns-in-Nothing : goal.returns-in-Nothing
returns-in-Nothing c = record { pairs = sym (ap pairs_in c.in-Nothing.is) ∙ c.self.view_is; columns = no_columns }
