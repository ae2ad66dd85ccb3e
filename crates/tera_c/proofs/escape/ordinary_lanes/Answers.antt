use Rattle.tera_c.proofs.EscapeLemmas.{all_ordinary, ordinary_before}
use Rattle.tera_c.proofs.escape.ordinary_lanes.Goals as goal

pub returns-then-specials-eq0 : goal.returns-then-specials-eq0
returns-then-specials-eq0 c = all_ordinary c.args.block c.fits-block.0 c.if-specials-eq0.true

pub returns : goal.returns
returns c = ordinary_before c.args.block c.fits-block.0 c.if-specials-eq0.false
