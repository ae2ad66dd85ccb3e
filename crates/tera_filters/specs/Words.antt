-- The words by which templates name filters.
use Rattle.std.specs.Prelude.{ℕ, List, codes}
use Rattle.tera_filters.specs.declared.filter.Filter.{Filter}
use Rattle.tera_filters.specs.declared.filter.Filter.TheVariants.{Length, First, Last, Nth}
use Rattle.tera_filters.specs.declared.filter.Filter.TheVariants.{Reverse, Slice, Get, Abs}
use Rattle.tera_filters.specs.declared.filter.Filter.TheVariants.{Upper, Lower, Trim, Join}
use Rattle.tera_filters.specs.declared.filter.Filter.TheVariants.{Sort, Unique}
use Rattle.tera_filters.specs.declared.filter.Filter.TheVariants.{Int, Default, Replace, Truncate}

abbrev pub word_of : Filter → List ℕ
word_of Length = codes "length"
word_of First = codes "first"
word_of Last = codes "last"
word_of Nth = codes "nth"
word_of Reverse = codes "reverse"
word_of Slice = codes "slice"
word_of Get = codes "get"
word_of Abs = codes "abs"
word_of Upper = codes "upper"
word_of Lower = codes "lower"
word_of Trim = codes "trim"
word_of Join = codes "join"
word_of Sort = codes "sort"
word_of Unique = codes "unique"
word_of Int = codes "int"
word_of Default = codes "default"
word_of Replace = codes "replace"
word_of Truncate = codes "truncate"
