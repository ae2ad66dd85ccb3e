use Rattle.std.proofs.Common.{rules, ◌++◌, append_assoc, ◌∙◌}
use Rattle.std.specs.Prelude.{flat_map}
use Rattle.tera_report.proofs.PutLaws.{broke_so_far, more_so_far, none_so_far, puts_after}
use Rattle.tera_script.specs.Text.{spelling}
use Rattle.tera_script.specs.Written.{inside, tokens_of}
use Rattle.tera_script.proofs.write_text.put_runs.Goals as goal

pub runs-init : goal.runs-init
runs-init g c = (search rules, none_so_far g.S.Sink.takes _ (inside c.args.ascii c.args.text.now) (g.met.S.Sink.nothing _))

pub runs-preserved : goal.runs-preserved
runs-preserved g c =
    let run = c.in-Some.run'.now in
    let spelled = flat_map spelling (tokens_of c.args.ascii c.in-Some.c) in
    let later = inside c.args.ascii c.in-Some.after.now in (
      search rules,
      more_so_far g.S.Sink.takes g.met.S.Sink.joined (run ++ spelled) later c.runs.invariant.1 (append_assoc run spelled later ∙ c.in-Some.ensures.cut)
          (g.met.S.Sink.joined _ run _ spelled _ c.in_ok-put.ensures c.in_ok-put_character.ensures),
    )

pub returns-in_err-put : goal.returns-in_err-put
returns-in_err-put g c =
    let spelled = flat_map spelling (tokens_of c.args.ascii c.in-Some.c) in
    let later = inside c.args.ascii c.in-Some.after.now in
    let bad = broke_so_far g.S.Sink.takes g.S.Sink.fails g.met.S.Sink.failed_early g.met.S.Sink.failed_later c.in-Some.run'.now (spelled ++ later)
    c.runs.invariant.1 c.in-Some.ensures.cut c.in_err-put.ensures in
    search rules

pub returns-in_err-put_character : goal.returns-in_err-put_character
returns-in_err-put_character g c =
    let run = c.in-Some.run'.now in
    let spelled = flat_map spelling (tokens_of c.args.ascii c.in-Some.c) in
    let later = inside c.args.ascii c.in-Some.after.now in
    let bad = broke_so_far g.S.Sink.takes g.S.Sink.fails g.met.S.Sink.failed_early g.met.S.Sink.failed_later (run ++ spelled) later c.runs.invariant.1
    (append_assoc run spelled later ∙ c.in-Some.ensures.cut) (g.met.S.Sink.failed_later _ run _ spelled _ c.in_ok-put.ensures c.in_err-put_character.ensures) in
    search rules

pub returns : goal.returns
returns g c =
    let so_far = c.runs.invariant.1 in
    puts_after g.S.Sink.takes g.S.Sink.fails g.met.S.Sink.joined g.met.S.Sink.failed_later c.put-2.result so_far.done c.runs.rest.now _ _ _ _
    ((λ i. so_far.done ++ c.in_default.ensures.plain i) ∙ so_far.split) so_far.took c.put-2.ensures
