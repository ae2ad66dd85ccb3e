use Rattle.std.proofs.Common.{ap, sym, ◌∙◌}
use Rattle.std.specs.Option.{option_map}
use Rattle.tera_script.specs.Readers.{name_at, named_rest}
use Rattle.tera_script.proofs.SavedNames.{decides_name, no_name}
use Rattle.tera_script.proofs.script.is_name.Goals as goal

pub returns-in-Some : goal.returns-in-Some
returns-in-Some c =
    decides_name c.is_empty.result c.args.name.now c.in-Some.field-0-0.now c.in-Some.rest.now
    (ap name_at (sym c.as_bytes.ensures.value) ∙ sym c.take_name.ensures ∙ ap (option_map named_rest) c.in-Some.is) c.is_empty.ensures

pub returns-in-None : goal.returns-in-None
returns-in-None c =
    no_name c.args.name.now (ap name_at (sym c.as_bytes.ensures.value) ∙ sym c.take_name.ensures ∙ ap (option_map named_rest) c.in-None.is)
