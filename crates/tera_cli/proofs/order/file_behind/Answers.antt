use Rattle.std.proofs.Common.{refl, sym, ◌∙◌}
use Rattle.tera_cli.proofs.OrderLemmas.{no_prefix, behind_prefix, nothing_behind, no_blank_behind}
use Rattle.tera_cli.proofs.order.file_behind.Goals as goal

pub returns-in_default : goal.returns-in_default
returns-in_default c = λ behind blank. no_prefix c.args.order.now c.strip_prefix.ensures.cases refl c.in_default.is behind

pub returns-in_default-split_first : goal.returns-in_default-split_first
returns-in_default-split_first c =
    nothing_behind c.args.order.now c.args.word.now c.in-Some.behind.now (behind_prefix c.args.order.now c.strip_prefix.ensures.cases refl c.in-Some.is)
    c.in_default-split_first.ensures.cases

pub returns-else-is_ascii_whitespace : goal.returns-else-is_ascii_whitespace
returns-else-is_ascii_whitespace c =
    no_blank_behind c.args.order.now c.args.word.now c.in-Some.behind.now (behind_prefix c.args.order.now c.strip_prefix.ensures.cases refl c.in-Some.is)
    c.in-Some-split_first.ensures.cases.0 (sym c.is_ascii_whitespace.ensures.value ∙ c.if-is_ascii_whitespace.false)

pub returns-then-is_ascii_whitespace : goal.returns-then-is_ascii_whitespace
returns-then-is_ascii_whitespace c = (
  c.in-Some.behind.now,
  behind_prefix c.args.order.now c.strip_prefix.ensures.cases refl c.in-Some.is,
  rw (c.in-Some-split_first.ensures.cases.0) (sym c.is_ascii_whitespace.ensures.value ∙ c.if-is_ascii_whitespace.true),
  c.trim_ascii.ensures.value,
)
