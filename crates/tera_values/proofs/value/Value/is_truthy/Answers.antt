use Rattle.std.proofs.Common.{sym, ap, ◌∙◌, not, nat_eq}
use Rattle.tera_meaning.specs.Meaning.{meaning}
use Rattle.tera_meaning.specs.Read.{truthy_in}
use Rattle.tera_meaning.proofs.MeaningLaws.{truthy_meant}
use Rattle.tera_values.specs.View.{form_of}
use Rattle.tera_values.proofs.PartsLaws.{counted_pairs}
use Rattle.tera_values.proofs.value.Value.is_truthy.Goals as goal

pub returns-in-Map : goal.returns-in-Map
returns-in-Map c =
    ap (λ n. not (nat_eq n 0)) c.len.ensures.len
    ∙ counted_pairs c.in-Map.all
    ∙ sym (truthy_meant c.in-Map.all)
    ∙ sym (ap (λ v. truthy_in (meaning (form_of v))) c.in-Map.is)
    ∙ ap (λ v. truthy_in (meaning v)) c.self.view_is
