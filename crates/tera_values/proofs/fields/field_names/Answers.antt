use Rattle.std.proofs.Common.{map, string_bytes, subst}
use Rattle.tera_meaning.specs.Fields.{AreRisingOf, shown_keys}
use Rattle.tera_meaning.proofs.FieldLaws.{only_rising_texts}
use Rattle.tera_values.proofs.fields.field_names.Goals as goal

pub returns-clause-ok : goal.returns-clause-ok
returns-clause-ok c =
    let made = map string_bytes c.sort_names.new.names.items in
    only_rising_texts (shown_keys c.args.all.now) made (subst (λ ts. AreRisingOf ts made) c.in_ok-names.ensures.ok c.sort_names.ensures)
