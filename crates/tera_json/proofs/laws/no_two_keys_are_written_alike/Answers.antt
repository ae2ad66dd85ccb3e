use Rattle.tera_json.specs.Documents.{most_levels}
use Rattle.tera_json.proofs.Apart.{unique}
use Rattle.tera_json.proofs.laws.no_two_keys_are_written_alike.Goals as goal

pub returns : goal.returns
returns c = λ v lacking made fits. unique lacking most_levels v made fits
