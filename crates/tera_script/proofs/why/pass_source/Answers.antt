use Rattle.std.proofs.Common.{sym}
use Rattle.tera_script.proofs.Fronts.{no_prefix, behind_prefix}
use Rattle.tera_script.proofs.PassedSources.{source_no_brace, map_source_passed}
use Rattle.tera_script.proofs.Values.{no_gap, source_none}
use Rattle.tera_script.proofs.why.pass_source.Goals as goal

pub returns-in_default : goal.returns-in_default
returns-in_default c = source_none (no_gap (sym c.in_default.ensures))

pub returns-in_default-strip_prefix : goal.returns-in_default-strip_prefix
returns-in_default-strip_prefix c =
    source_no_brace c.args.bytes.now (sym c.in-Some.ensures)
    (no_prefix c.in-Some.literal.now c.strip_prefix.ensures.cases c.as_slice.ensures c.in_default-strip_prefix.is)

pub returns : goal.returns
returns c =
    map_source_passed c.args.bytes.now (sym c.in-Some.ensures)
    (behind_prefix c.in-Some.literal.now c.strip_prefix.ensures.cases c.as_slice.ensures c.in-Some-strip_prefix.is) c.pass_map.result c.pass_map.ensures
