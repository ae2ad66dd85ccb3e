use Rattle.tera_script.proofs.Texts.{run_found}
use Rattle.tera_script.proofs.text.take_run.Goals as goal

pub returns-clause-run : goal.returns-clause-run
returns-clause-run c =
    let found = run_found c.args.bytes.now c.run_length.result c.run_length.ensures.within c.run_length.ensures.plain c.run_length.ensures.ends in
    (c.split_at.result.0.now, rw (c.split_at.ensures.front, c.split_at.ensures.back) found, c.in_ok-extend_from_slice.ensures.items)
