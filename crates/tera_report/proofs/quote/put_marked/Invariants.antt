-- What was put and what the rest of the escape gives are the whole escape.
use Rattle.std.proofs.Common.{◌≡◌, ◌≤◌, encode_utf8_all}
use Rattle.std.specs.Char.Iter.{escape_rest, escape_end}
use Rattle.tera_report.specs.inner.Quoted.{EscapesMarked}
use Rattle.tera_report.proofs.PutLaws.{Leads}
use Rattle.tera_report.proofs.quote.put_marked.Given as goal

abbrev pub invariant-parts : goal.invariant-parts
invariant-parts g l =
    (escape_end l.escape ≤ 10) × Leads g.S.Sink.takes (EscapesMarked l.fn.c) (λ bytes. bytes ≡ encode_utf8_all (escape_rest l.escape)) l.fn.out l.out
