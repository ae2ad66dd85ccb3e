use Rattle.std.specs.Prelude.{Some}
use Rattle.std.proofs.Common.{sym, ap, ◌∙◌}
use Rattle.tera_meaning.specs.Meaning.{meaning}
use Rattle.tera_meaning.specs.Read.{size_in}
use Rattle.tera_meaning.proofs.MeaningLaws.{size_meant}
use Rattle.tera_values.specs.View.{form_of}
use Rattle.tera_values.proofs.PartsLaws.{meant_length}
use Rattle.tera_values.proofs.value.Value.len.Goals as goal

pub returns-in-Array : goal.returns-in-Array
returns-in-Array c =
    ap Some (c.len.ensures ∙ c.in-Array.all.ok.0 ∙ sym (meant_length c.in-Array.all.items))
    ∙ sym (ap (λ v. size_in (meaning (form_of v))) c.in-Array.is)
    ∙ ap (λ v. size_in (meaning v)) c.self.view_is

pub returns-in-Map : goal.returns-in-Map
returns-in-Map c =
    ap Some c.len-in-Map.ensures.len
    ∙ sym (size_meant c.in-Map.all c.len-in-Map.ensures.distinct)
    ∙ sym (ap (λ v. size_in (meaning (form_of v))) c.in-Map.is)
    ∙ ap (λ v. size_in (meaning v)) c.self.view_is
