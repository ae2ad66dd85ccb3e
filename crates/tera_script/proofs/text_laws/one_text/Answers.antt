use Rattle.std.proofs.Common.{[], refl}
use Rattle.tera_script.proofs.Texts.{one_reading}
use Rattle.tera_script.proofs.text_laws.one_text.Goals as goal

pub returns : goal.returns
returns c = λ inner s t p q. (one_reading inner inner [] [] s t p q refl).1
