use Rattle.std.proofs.Common.{Some, subst, sym}
use Rattle.tera_script.specs.Word.{IsName}
use Rattle.tera_script.proofs.Names.{name_named}
use Rattle.tera_script.proofs.word.take_operand.Goals as goal

pub name_in-requires : goal.name_in-requires
name_in-requires c = name_named _ (Some (c.in_ok-name.name, c.in_ok-name.rest)) c.in_ok-name.ensures

pub returns-clause-named : goal.returns-clause-named
returns-clause-named c =
    subst IsName (sym c.name_in.ensures) (name_named _ (Some (c.in_ok-name.name, c.in_ok-name.rest)) c.in_ok-name.ensures)
