use Rattle.std.proofs.Common.{◌∙◌}
use Rattle.tera_script.proofs.HexBytes.{hex_more}
use Rattle.tera_script.proofs.hex.take_hex.Goals as goal

pub loop-high-preserved : goal.loop-high-preserved
loop-high-preserved c = rw (c.in_ok-push.ensures.items)
    (hex_more _ _ _ _ _ _ _ c.in-Some.ensures.cases.0 c.in-Some-split_first.ensures.cases.0 c.in-Some-byte_of.ensures.0 c.in-Some-byte_of.ensures.1
    ∙ c.loop-high.invariant)
