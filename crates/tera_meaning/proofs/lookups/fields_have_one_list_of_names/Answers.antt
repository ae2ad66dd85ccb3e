use Rattle.tera_meaning.specs.Fields.{shown_in}
use Rattle.tera_meaning.proofs.FieldLaws.{rising_are_rising}
use Rattle.tera_meaning.proofs.lookups.fields_have_one_list_of_names.Goals as goal

pub returns-clause-are : goal.returns-clause-are
returns-clause-are c v = rising_are_rising (shown_in v)
