-- Four texts that are put in turn are put as one.
use Rattle.std.proofs.Common.{rules, ◌+◌, ◌++◌, codes, ap, ◌∙◌}
use Rattle.std.specs.Fmt.{decimal}
use Rattle.std.proofs.lemmas.List.{append_assoc}
use Rattle.tera_report.proofs.PutLaws.{puts_after}
use Rattle.tera_script.specs.Expected.{expectation_text}
use Rattle.tera_script.proofs.stop.Expected.tell_to.Goals as goal

pub returns-in_err-put : goal.returns-in_err-put
returns-in_err-put g c =
    let what = expectation_text c.args.self.now.what in
    let bad = g.met.S.Sink.failed_early _ _ _ (what ++ (codes " at character " ++ decimal (c.args.self.now.characters + 1))) c.in_err-put.ensures in
    search rules

pub returns-in_err-put-2 : goal.returns-in_err-put-2
returns-in_err-put-2 g c =
    let bad = g.met.S.Sink.failed_later _ _ _ _ _ c.in_ok-put.ensures
    (g.met.S.Sink.failed_early _ _ _ (codes " at character " ++ decimal (c.args.self.now.characters + 1)) (rw (c.text.ensures) at c.in_err-put-2.ensures)) in
    search rules

pub returns-in_err-put-3 : goal.returns-in_err-put-3
returns-in_err-put-3 g c =
    let bad = g.met.S.Sink.failed_later _ _ _ _ _ c.in_ok-put.ensures
    (g.met.S.Sink.failed_later _ _ _ _ _ (rw (c.text.ensures) at c.in_ok-put-2.ensures)
    (g.met.S.Sink.failed_early _ _ _ (decimal (c.args.self.now.characters + 1)) c.in_err-put-3.ensures)) in
    search rules

pub returns : goal.returns
returns g c =
    let what = expectation_text c.args.self.now.what in
    let at = codes " at character " in
    let number = decimal (c.args.self.now.characters + 1) in
    let joined = g.met.S.Sink.joined in
    puts_after g.S.Sink.takes g.S.Sink.fails joined g.met.S.Sink.failed_later c.put_integer.result (codes "expected " ++ (what ++ at)) number _ _ _ _
    (append_assoc (codes "expected ") (what ++ at) number ∙ ap (λ xs. codes "expected " ++ xs) (append_assoc what at number))
    (joined _ (codes "expected ") _ (what ++ at) _ c.in_ok-put.ensures
    (joined _ what _ at _ (rw (c.text.ensures) at c.in_ok-put-2.ensures) c.in_ok-put-3.ensures)) c.put_integer.ensures
