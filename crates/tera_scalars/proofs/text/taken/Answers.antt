use Rattle.std.proofs.Common.{ap, ◌-◌, List, ℕ}
use Rattle.std.specs.Str.{encode_utf8_all}
use Rattle.tera_meaning.specs.Slice.{walked}
use Rattle.tera_scalars.proofs.TextLemmas.{bytes_taken}
use Rattle.tera_scalars.proofs.PositionLaws.{walked_whole}
use Rattle.tera_scalars.proofs.text.taken.Goals as goal

pub returns-then-backwards : goal.returns-then-backwards
returns-then-backwards c = rw (c.if-by-eq1.true, c.if-backwards.true, walked_whole) c.last_turned.ensures

pub returns-then-by-eq1 : goal.returns-then-by-eq1
returns-then-by-eq1 c = rw (c.if-by-eq1.true, c.if-backwards.false, walked_whole) c.first_copied.ensures

pub returns-then-is_ascii : goal.returns-then-is_ascii
returns-then-is_ascii c =
    let are = bytes_taken c.args.backwards _ _ _ _ c.utf8.text c.min.ensures c.bytes_near-bytes.ensures c.if-is_ascii.ensures.cases in
    rw (← (ap (λ (ds : List ℕ). encode_utf8_all (walked (c.args.by - 1) 0 ds)) are)) c.strided_ascii.ensures
