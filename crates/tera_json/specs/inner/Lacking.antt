-- What JSON has no word for.
use Rattle.std.specs.Prelude.{◌≡◌, ℕ}
use Rattle.json.specs.Json.{null}
use Rattle.tera_json.specs.Written.{document_of, value_misfits, lacking_misfits}
use Rattle.tera_json.specs.declared.write.Lacking.{Lacking}
use Rattle.tera_meaning.specs.Form.{Form}
use Rattle.tera_meaning.specs.Kind.{kind_in, kind_name}

-- the value is written as null, or refused by the word of its kind
pub record IsLacking (v : Form) : Type 0 where
  pub null_for_it : document_of v ≡ null
  pub misfits : (lacking : Lacking) (levels : ℕ)
      → value_misfits lacking levels v ≡ lacking_misfits lacking (kind_name (kind_in v))
