-- Numbers of values, as integers of Rust.
use Rattle.std.specs.Prelude.{◌≡◌, true, false, is_some, refl}
use Rattle.tera_meaning.specs.Form.{Form}
use Rattle.tera_meaning.specs.Read.{number_in, iterable_in}
use Rattle.tera_meaning.specs.Tree.{undefined, none, truth, number, text, bytes, array, object}

-- a number has no parts, so a copy of it takes no memory
pub numbers_have_no_parts : (value : Form) → is_some (number_in value) ≡ true → iterable_in value ≡ false
numbers_have_no_parts undefined is = refl
numbers_have_no_parts none is = refl
numbers_have_no_parts (truth b) is = refl
numbers_have_no_parts (number n) is = refl
numbers_have_no_parts (text t) is = cc
numbers_have_no_parts (bytes bs) is = cc
numbers_have_no_parts (array xs) is = cc
numbers_have_no_parts (object ps) is = cc
