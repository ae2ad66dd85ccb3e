use Rattle.tera_meaning.specs.Meaning.{layout}
use Rattle.tera_meaning.proofs.QuotedLaws.{alone_alike, inside_alike}
use Rattle.tera_meaning.proofs.printed.equal_layouts_print_alike.Goals as goal

pub returns-clause-alone : goal.returns-clause-alone
returns-clause-alone c v w = alone_alike (layout v) (layout w)

pub returns-clause-inside : goal.returns-clause-inside
returns-clause-inside c v w = inside_alike (layout v) (layout w)
