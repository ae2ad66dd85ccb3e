-- What was put and what the rest of the escape gives are the whole escape.
use Rattle.std.proofs.Common.{◌≤◌, false, encode_utf8_all}
use Rattle.std.specs.Char.Iter.{escape_rest, escape_end}
use Rattle.std.specs.Fmt.{digits}
use Rattle.tera_report.proofs.PutLaws.{SoFar}
use Rattle.tera_script.specs.Text.{spelling, character}
use Rattle.tera_script.proofs.write_text.put_code.Given as goal

abbrev pub invariant-parts : goal.invariant-parts
invariant-parts g l =
    (escape_end l.escape ≤ 10) × SoFar g.S.Sink.takes l.fn.out (spelling (character (digits 16 false l.fn.c))) (encode_utf8_all (escape_rest l.escape)) l.out
