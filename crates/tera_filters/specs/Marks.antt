-- Which filters make what they answer, and do not hand on what they were given.
use Rattle.std.specs.Prelude.{Bool, true, false}
use Rattle.tera.specs.Form.{Form}
use Rattle.tera.specs.Tree.{undefined, none, truth, number, text, bytes, array, object}
use Rattle.tera_filters.specs.declared.filter.Filter.{Filter}
use Rattle.tera_filters.specs.declared.filter.Filter.TheVariants.{Length, First, Last, Nth}
use Rattle.tera_filters.specs.declared.filter.Filter.TheVariants.{Reverse, Slice, Get, Abs}
use Rattle.tera_filters.specs.declared.filter.Filter.TheVariants.{Upper, Lower, Trim, Join}
use Rattle.tera_filters.specs.declared.filter.Filter.TheVariants.{Sort, Unique}
use Rattle.tera_filters.specs.declared.filter.Filter.TheVariants.{Int, Default, Replace, Truncate}

-- whether a value is a text with a safe flag
abbrev pub is_safe_text : Form → Bool
is_safe_text undefined = false
is_safe_text none = false
is_safe_text (truth b) = false
is_safe_text (number n) = false
is_safe_text (text t) = t.safe
is_safe_text (bytes bs) = false
is_safe_text (array xs) = false
is_safe_text (object ps) = false

abbrev pub makes : Filter → Bool
makes Length = true
makes First = false
makes Last = false
makes Nth = false
makes Reverse = true
makes Slice = false
makes Get = false
makes Abs = true
makes Upper = true
makes Lower = true
makes Trim = true
makes Join = true
makes Sort = true
makes Unique = true
makes Int = true
makes Default = false
makes Replace = true
makes Truncate = true
