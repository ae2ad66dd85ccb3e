use Rattle.std.proofs.Common.{◌≡◌, map, subst, sym}
use Rattle.std.proofs.lemmas.Result.{IfOk-weaker}
use Rattle.std.specs.String.{string_bytes}
use Rattle.tera.specs.Fields.{AreRisingOf, fields, shown_in}
use Rattle.uses.proofs.look_ups.field_names.Goals as goal

pub returns-clause-ok : goal.returns-clause-ok
returns-clause-ok c =
    let value = c.args.value.now in
    IfOk-weaker c.available_fields.result (λ names. map string_bytes names.items ≡ fields value)
    (λ names. AreRisingOf (shown_in value) (map string_bytes names.items))
    (λ names known. subst (AreRisingOf (shown_in value)) (sym known) (c.fields_have_one_list_of_names.ensures.are value))
    c.available_fields.ensures.ok
