use Rattle.tera_script.proofs.Texts.{one_reading}
use Rattle.tera_script.proofs.text_laws.one_closing_quote.Goals as goal

pub returns : goal.returns
returns c = λ inner other s t xs ys p q e. (one_reading inner other xs ys s t p q e).0
