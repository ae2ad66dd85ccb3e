use Rattle.tera_c.proofs.MeasureLemmas.{block_adds}
use Rattle.tera_c.proofs.measure.block_len.Goals as goal

pub returns : goal.returns
returns c = block_adds c.args.block c.fits-block.0
