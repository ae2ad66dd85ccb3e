use Rattle.std.proofs.Common.{inl}
use Rattle.tera_conversions.proofs.GivenLaws.{passed_on}
use Rattle.tera_conversions.specs.Given.{GivesPair}
use Rattle.tera_meaning.specs.Form.{Form}
use Rattle.tera_meaning.specs.KeyMeaning.{KeyForm}
use Rattle.tera_values.specs.Key.{key_form}
use Rattle.tera_conversions.proofs.maps.put.Goals as goal

pub returns-clause-ok : goal.returns-clause-ok
returns-clause-ok g c = ((key_form c.in_ok-key.key, c.in_ok-value.value), (c.in_ok-key.ensures.ok, c.in_ok-value.ensures.ok), c.in_ok-insert.ensures.ok)

pub returns-in_err-insert-clause-err : goal.returns-in_err-insert-clause-err
returns-in_err-insert-clause-err g c =
    let gave : (pair : KeyForm × Form) × GivesPair g.K.ToKey.gives_key g.T.ToValue.gives (c.args.key, c.args.value) pair =
    ((key_form c.in_ok-key.key, c.in_ok-value.value), (c.in_ok-key.ensures.ok, c.in_ok-value.ensures.ok)) in
    passed_on _ _ _ c.from_residual-in_err-insert.ensures.1 (inl (c.in_err-insert.ensures.err, gave.0, gave.1))
