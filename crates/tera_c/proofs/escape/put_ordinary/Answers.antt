use Rattle.std.proofs.lemmas.Simd.{run_in_chunk_le}
use Rattle.tera_report.specs.Escaping.{is_special}
use Rattle.tera_c.proofs.EscapeLemmas.{run_put}
use Rattle.tera_c.proofs.escape.put_ordinary.Goals as goal

pub returns-clause-put : goal.returns-clause-put
returns-clause-put c =
    run_put c.args.bytes.now c.args.room.now c.args.at c.args.filled _ c.requires.block c.requires.room c.ordinary_lanes.ensures c.requires.before

pub returns-clause-within : goal.returns-clause-within
returns-clause-within c = run_in_chunk_le is_special c.args.bytes.now c.args.at 16 _ 0 c.requires.block c.ordinary_lanes.ensures
