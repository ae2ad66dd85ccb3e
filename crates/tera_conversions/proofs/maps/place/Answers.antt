use Rattle.std.proofs.Common.{ap, ◌∙◌}
use Rattle.tera_conversions.proofs.GivenLaws.{wanted_where}
use Rattle.tera_conversions.proofs.SortedLemmas.{forms_placed}
use Rattle.tera_conversions.specs.Given.{GivesPair, PairRefuses}
use Rattle.tera_conversions.specs.inner.Forms.{forms_of}
use Rattle.tera_meaning.specs.Form.{Form}
use Rattle.tera_meaning.specs.KeyMeaning.{KeyForm}
use Rattle.tera_values.specs.Key.{key_form}
use Rattle.tera_conversions.proofs.maps.place.Goals as goal

pub returns-clause-ok : goal.returns-clause-ok
returns-clause-ok g c = (
  (key_form c.in_ok-key.key, c.in_ok-value.value),
  (c.in_ok-key.ensures.ok, c.in_ok-value.ensures.ok),
  ap (λ es. forms_of es) c.in_ok-insert.ensures.entries ∙ forms_placed c.in_ok-key.key c.in_ok-value.value c.args.sorted.now.entries,
)

pub returns-in_err-insert-clause-err : goal.returns-in_err-insert-clause-err
returns-in_err-insert-clause-err g c =
    let gave : (pair : KeyForm × Form) × GivesPair g.K.ToKey.gives_key g.T.ToValue.gives (c.args.key, c.args.value) pair =
    ((key_form c.in_ok-key.key, c.in_ok-value.value), (c.in_ok-key.ensures.ok, c.in_ok-value.ensures.ok)) in
    wanted_where _ (PairRefuses g.K.ToKey.gives_key g.K.ToKey.refuses_key g.T.ToValue.refuses (c.args.key, c.args.value)) _
    c.from_residual-in_err-insert.ensures.1 gave
