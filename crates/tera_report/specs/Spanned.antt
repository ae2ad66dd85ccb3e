-- A node, its place, and the node at another place.
use Rattle.tera_report.specs.declared.span.Span.{Span}
use Rattle.tera_report.specs.declared.spanned.Spanned.{Spanned}

abbrev pub node_of : {T : Type 0} → Spanned T → T
node_of spanned = spanned.node.value

abbrev pub span_of : {T : Type 0} → Spanned T → Span
span_of spanned = spanned.span

-- the same node, with that place
abbrev pub placed_at : {T : Type 0} → Spanned T → Span → Spanned T
placed_at spanned span = record spanned { span = span }
