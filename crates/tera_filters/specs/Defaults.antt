-- What stands in for an undefined value.
use Rattle.std.specs.Prelude.{codes, Result}
use Rattle.std.specs.Option.{ok_or}
use Rattle.tera.specs.Arithmetic.{each_ok}
use Rattle.tera.specs.Form.{Form}
use Rattle.tera.specs.Lookup.{attr}
use Rattle.tera.specs.Refusal.{Refusal, missing_argument}
use Rattle.tera.specs.Tree.{undefined}

-- a value, or another where it is undefined
abbrev pub defined_or : Form → Form → Form
defined_or undefined other = other
defined_or value other = value

-- a value, or the argument `value` where it is undefined. The argument has to be there for each
abbrev pub default_of : Form → Form → Result Form Refusal
default_of value arguments =
    each_ok (defined_or value)
    (ok_or (attr arguments (codes "value")) (missing_argument (codes "value")))
