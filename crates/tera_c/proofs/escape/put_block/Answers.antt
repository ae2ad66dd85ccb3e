use Rattle.std.proofs.Common.{◌+◌, get_or, arith}
use Rattle.tera_c.proofs.MeasureLemmas.{at_most_six}
use Rattle.tera_c.proofs.EscapeLemmas.{byte_put}
use Rattle.tera_c.proofs.escape.put_block.Goals as goal

pub put_byte-behind-requires : goal.put_byte-behind-requires
put_byte-behind-requires c = omega (arith, at_most_six (get_or c.args.bytes.now c.args.at 0), c.requires.room)

pub returns-then-byte_len-gt1-clause-put : goal.returns-then-byte_len-gt1-clause-put
returns-then-byte_len-gt1-clause-put c =
    byte_put c.args.bytes.now c.args.room.now c.put_byte-behind.new.room c.args.at _ _ (omega arith) c.requires.before c.put_byte-behind.ensures

pub put_byte-end-requires : goal.put_byte-end-requires
put_byte-end-requires c =
    let put = c.put_ordinary-run.ensures in
    omega (arith, at_most_six (get_or c.args.bytes.now (c.args.at + c.put_ordinary-run.result) 0), put.within, put.size, c.requires.room)

pub returns-clause-put : goal.returns-clause-put
returns-clause-put c =
    let put = c.put_ordinary-run in
    byte_put c.args.bytes.now put.new.room c.put_byte-end.new.room (c.args.at + put.result) _ _ (omega arith) put.ensures.put c.put_byte-end.ensures
