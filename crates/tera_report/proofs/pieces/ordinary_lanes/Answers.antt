use Rattle.std.proofs.Common.{not, arith}
use Rattle.std.proofs.lemmas.List.Sums.{prefix_len-le-length}
use Rattle.tera_report.specs.Escaping.{is_special}
use Rattle.tera_report.proofs.LaneLemmas.{specials_mask, ordinary_throughout, ordinary_up_to}
use Rattle.tera_report.proofs.pieces.ordinary_lanes.Goals as goal

pub returns-then-specials-eq0-clause-counted : goal.returns-then-specials-eq0-clause-counted
returns-then-specials-eq0-clause-counted c =
    ordinary_throughout c.args.block _ c.fits-block.0 (specials_mask c.args.block c.fits-block.0) c.if-specials-eq0.true

pub returns-clause-counted : goal.returns-clause-counted
returns-clause-counted c =
    ordinary_up_to c.args.block _ c.fits-block.0 (specials_mask c.args.block c.fits-block.0) c.if-specials-eq0.false

pub returns-clause-within : goal.returns-clause-within
returns-clause-within c =
    let counted = ordinary_up_to c.args.block _ c.fits-block.0 (specials_mask c.args.block c.fits-block.0) c.if-specials-eq0.false in
    omega (arith, counted, prefix_len-le-length (λ x. not (is_special x)) c.args.block, c.fits-block.0)
