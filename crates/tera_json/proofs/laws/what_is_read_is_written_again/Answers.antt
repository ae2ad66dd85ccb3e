use Rattle.std.proofs.Common.{ap, ◌∙◌, sym, Some, option_map}
use Rattle.json.proofs.Numbered.{document-HasNumbers}
use Rattle.tera_json.specs.Documents.{most_levels}
use Rattle.tera_json.specs.Tidied.{tidied}
use Rattle.tera_json.proofs.Tidying.{read_again, read_fits}
use Rattle.tera_json.proofs.laws.what_is_read_is_written_again.Goals as goal

pub returns : goal.returns
returns c = record {
  same = λ bytes v read. ap (option_map tidied) read.1 ∙ ap Some (sym (read_again read.0 v (document-HasNumbers bytes read.0 read.1) read.2));
  fits = λ bytes v read lacking. read_fits lacking most_levels read.0 v read.3 read.2;
}
