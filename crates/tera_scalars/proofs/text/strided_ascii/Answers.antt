use Rattle.std.proofs.Common.{◌<◌, ◌≤◌, ◌^◌, ◌-◌, ◌++◌, List, ℕ, length, arith, rules, ap}
use Rattle.std.specs.Str.{encode_utf8_all}
use Rattle.tera_meaning.specs.Slice.{walked}
use Rattle.tera_scalars.specs.Positions.{turned}
use Rattle.tera_scalars.proofs.TextLemmas.{put_next, put_all, length_turned}
use Rattle.tera_scalars.proofs.text.strided_ascii.Goals as goal

pub loop-at-init : goal.loop-at-init
loop-at-init c =
    let cs = turned c.args.backwards c.args.bytes.now in
    ap (λ (bs : List ℕ). bs ++ encode_utf8_all (walked (c.args.by - 1) 0 cs)) c.in_ok-made.ensures.bytes

pub loop-at-preserved : goal.loop-at-preserved
loop-at-preserved c =
    let bytes = c.args.bytes.now in
    let fits : length bytes < 2 ^ 64 = search rules in
    let turned_fits : length (turned c.args.backwards bytes) < 2 ^ 64 = omega (arith, length_turned c.args.backwards bytes) in
    put_next _ _ _ _ _ c.args.by _ c.byte_from.ensures (omega arith) c.saturating_add-at.ensures turned_fits
    c.in_ok-push.ensures.bytes c.loop-at.invariant

pub returns : goal.returns
returns c =
    let turned_bytes = turned c.args.backwards c.args.bytes.now in
    let ended : length turned_bytes ≤ c.loop-at.at = omega (arith, length_turned c.args.backwards c.args.bytes.now, c.loop-at-test.false) in
    put_all _ turned_bytes _ c.loop-at.at ended c.loop-at.invariant
