-- Where the first line feed stands, and whether more than an end of line follows what stands before it.
use Rattle.std.proofs.Common.{refl, sym, inl}
use Rattle.std.proofs.{lemmas.Bool.eqb-true, lemmas.Bool.eqb-false}
use Rattle.std.proofs.lemmas.List.Elements.{All-nil}
use Rattle.tera_replies.specs.Script.{HasNoLineFeed}
use Rattle.tera_c.proofs.LineLemmas.{whole_line, broken_line}
use Rattle.tera_c.proofs.line.line_of.Goals as goal

pub returns-then-is_empty : goal.returns-then-is_empty
returns-then-is_empty c = whole_line _ _ _ c.in-Some.ensures.found (eqb-true _ _ (sym c.if-is_empty.ensures)) c.trimmed.ensures

pub returns-else-is_empty : goal.returns-else-is_empty
returns-else-is_empty c = broken_line c.bytes_are_lines.ensures _ _ _ c.in-Some.ensures.found (eqb-false _ _ (sym c.if-is_empty.ensures))

pub returns-in-None : goal.returns-in-None
returns-in-None c = inl (record { whole = refl; each = All-nil HasNoLineFeed; rest = c.in-None.ensures.none })
