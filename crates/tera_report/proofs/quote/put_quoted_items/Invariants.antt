-- Whatever stands for the rest of the texts stands, behind what was put, for all of them.
use Rattle.std.proofs.Common.{[], map, drop, string_bytes}
use denote.Text.{Utf8}
use denote.Shadow.{shadow}
use Rattle.tera_report.specs.Quoted.{QuotesItems}
use Rattle.tera_report.proofs.PutLaws.{Leads}
use Rattle.tera_report.proofs.quote.put_quoted_items.Given as goal

abbrev pub invariant-loop-text : goal.invariant-loop-text
invariant-loop-text g l =
    shadow (Utf8 l.lead)
    × Leads g.S.Sink.takes (QuotesItems [] (map string_bytes l.texts)) (QuotesItems l.lead (map string_bytes (drop l.text-index l.texts))) l.fn.out l.out
