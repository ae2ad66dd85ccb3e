-- Lists of pairs, as maps are seen.
use Rattle.std.specs.Prelude.{List}
use Rattle.std.specs.Coded.{Coded, coded×, coded_list}
use Rattle.tera_meaning.specs.Form.{Form}
use Rattle.tera_meaning.specs.KeyMeaning.{KeyForm}
use Rattle.tera_meaning.specs.Stored.{coded_form, coded_integer, coded_key, coded_key_text}

-- a list of pairs as a code
abbrev pub coded_pairs : Coded (List (KeyForm × Form))
coded_pairs = coded_list (coded× (coded_key coded_integer coded_key_text) coded_form)
