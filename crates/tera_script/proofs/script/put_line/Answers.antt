use Rattle.std.proofs.Common.{rules, codes, refl, ◌++◌}
use Rattle.tera_report.proofs.PutLaws.{broke_so_far, puts_after}
use Rattle.tera_script.specs.Written.{literal_of}
use Rattle.tera_script.proofs.SavedPuts.{behind_word, behind_name, name_first, word_put, name_put, gap_put, literal_put}
use Rattle.tera_script.proofs.script.put_line.Goals as goal

pub returns-in_err-put : goal.returns-in_err-put
returns-in_err-put g c =
    let bad = g.met.S.Sink.failed_early _ (codes "set ") _ (behind_word c.args.ascii c.args.name.now c.args.value.now) c.in_err-put.ensures in
    search rules

pub returns-in_err-put-2 : goal.returns-in_err-put-2
returns-in_err-put-2 g c =
    let ascii = c.args.ascii in
    let name = c.args.name.now in
    let value = c.args.value.now in
    let before = word_put g.S.Sink.takes g.met.S.Sink.nothing g.met.S.Sink.joined ascii name value _ _ c.in_ok-put.ensures in
    let bad = broke_so_far g.S.Sink.takes g.S.Sink.fails g.met.S.Sink.failed_early g.met.S.Sink.failed_later name (behind_name ascii name value) before
    (name_first ascii name value) c.in_err-put-2.ensures in
    search rules

pub returns-in_err-put-3 : goal.returns-in_err-put-3
returns-in_err-put-3 g c =
    let ascii = c.args.ascii in
    let name = c.args.name.now in
    let value = c.args.value.now in
    let before = name_put g.S.Sink.takes g.met.S.Sink.nothing g.met.S.Sink.joined ascii name value _ _ _ c.in_ok-put.ensures c.in_ok-put-2.ensures in
    let bad = broke_so_far g.S.Sink.takes g.S.Sink.fails g.met.S.Sink.failed_early g.met.S.Sink.failed_later (codes " ")
    (literal_of ascii value ++ codes "\n") before refl c.in_err-put-3.ensures in
    search rules

pub returns-in_err-put_literal : goal.returns-in_err-put_literal
returns-in_err-put_literal g c =
    let ascii = c.args.ascii in
    let name = c.args.name.now in
    let value = c.args.value.now in
    let before = gap_put g.S.Sink.takes g.met.S.Sink.nothing g.met.S.Sink.joined ascii name value _ _ _ _ c.in_ok-put.ensures c.in_ok-put-2.ensures
    c.in_ok-put-3.ensures in
    let bad = broke_so_far g.S.Sink.takes g.S.Sink.fails g.met.S.Sink.failed_early g.met.S.Sink.failed_later (literal_of ascii value) (codes "\n") before
    refl c.in_err-put_literal.ensures in
    search rules

pub returns : goal.returns
returns g c =
    let ascii = c.args.ascii in
    let name = c.args.name.now in
    let value = c.args.value.now in
    let before = literal_put g.S.Sink.takes g.met.S.Sink.nothing g.met.S.Sink.joined ascii name value _ _ _ _ _ c.in_ok-put.ensures
    c.in_ok-put-2.ensures c.in_ok-put-3.ensures c.in_ok-put_literal.ensures in
    puts_after g.S.Sink.takes g.S.Sink.fails g.met.S.Sink.joined g.met.S.Sink.failed_later c.put-4.result
    before.done (codes "\n") _ _ _ _ before.split before.took c.put-4.ensures
