use Rattle.tera_script.proofs.Texts.{text_is_utf8}
use Rattle.tera_script.proofs.text_laws.text_is_utf8.Goals as goal

pub returns : goal.returns
returns c = text_is_utf8
