-- What filters make of a value and their named arguments, or refuse.
use Rattle.std.specs.Prelude.{Result}
use Rattle.tera.specs.Form.{Form}
use Rattle.tera.specs.Refusal.{Refusal}
use Rattle.tera.specs.SliceRule.{reversed}
use Rattle.tera_filters.specs.Arrays.{first_of, get_of, last_of, length_of, nth_of, slice_of}
use Rattle.tera_filters.specs.Arrays.{sort_of, unique_of}
use Rattle.tera_filters.specs.Defaults.{default_of}
use Rattle.tera_filters.specs.Numbers.{abs_of, int_of}
use Rattle.tera_filters.specs.Parts.{replace_of, truncate_of}
use Rattle.tera_filters.specs.Texts.{join_of, lower_of, trim_of, upper_of}
use Rattle.tera_filters.specs.declared.filter.Filter.{Filter}
use Rattle.tera_filters.specs.declared.filter.Filter.TheVariants.{Length, First, Last, Nth}
use Rattle.tera_filters.specs.declared.filter.Filter.TheVariants.{Reverse, Slice, Get, Abs}
use Rattle.tera_filters.specs.declared.filter.Filter.TheVariants.{Upper, Lower, Trim, Join}
use Rattle.tera_filters.specs.declared.filter.Filter.TheVariants.{Sort, Unique}
use Rattle.tera_filters.specs.declared.filter.Filter.TheVariants.{Int, Default, Replace, Truncate}

-- an argument that the filter does not know is passed over
abbrev pub filtered : Filter → Form → Form → Result Form Refusal
filtered Length value arguments = length_of value
filtered First value arguments = first_of value
filtered Last value arguments = last_of value
filtered Nth value arguments = nth_of value arguments
filtered Reverse value arguments = reversed value
filtered Slice value arguments = slice_of value arguments
filtered Get value arguments = get_of value arguments
filtered Abs value arguments = abs_of value
filtered Upper value arguments = upper_of value
filtered Lower value arguments = lower_of value
filtered Trim value arguments = trim_of value
filtered Join value arguments = join_of value arguments
filtered Sort value arguments = sort_of value
filtered Unique value arguments = unique_of value
filtered Int value arguments = int_of value
filtered Default value arguments = default_of value arguments
filtered Replace value arguments = replace_of value arguments
filtered Truncate value arguments = truncate_of value arguments
