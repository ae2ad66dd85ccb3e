use Rattle.std.proofs.Common.{rules, ◌≡◌, ◌+◌, ◌-◌, ◌++◌, ℕ, replicate, arith, ap, ◌∙◌}
use Rattle.std.proofs.lemmas.List.{replicate-append-replicate}
use Rattle.tera_report.specs.Report.{caret}
use Rattle.tera_report.proofs.PutLaws.{none_so_far, more_so_far, broke_so_far, puts_after}
use Rattle.tera_report.proofs.ReportLemmas.{run_cut, run_front}
use Rattle.tera_report.proofs.report.text.put_carets.Goals as goal

-- a run of carets and the rest
cut : (n : ℕ) → 64 + (n - 64) ≡ n → replicate 64 caret ++ replicate (n - 64) caret ≡ replicate n caret
cut n is = replicate-append-replicate 64 (n - 64) caret ∙ ap (λ k. replicate k caret) is

pub chunks-init : goal.chunks-init
chunks-init g c = none_so_far g.S.Sink.takes _ _ (g.met.S.Sink.nothing _)

pub chunks-preserved : goal.chunks-preserved
chunks-preserved g c = more_so_far g.S.Sink.takes g.met.S.Sink.joined _ _ c.chunks.invariant (cut c.chunks.left (omega arith)) c.in_ok-put.ensures

pub returns-in_err-put : goal.returns-in_err-put
returns-in_err-put g c =
    let bad = broke_so_far g.S.Sink.takes g.S.Sink.fails g.met.S.Sink.failed_early g.met.S.Sink.failed_later _ _ c.chunks.invariant
    (cut c.chunks.left (omega arith)) c.in_err-put.ensures in
    search rules

pub range-requires-clause-end_boundary : goal.range-requires-clause-end_boundary
range-requires-clause-end_boundary g c = run_cut 64 c.chunks.left caret (omega arith) (omega (arith, c.chunks-test.false))

pub returns : goal.returns
returns g c =
    let h = c.chunks.invariant in
    let all = ap (λ l. h.done ++ l) (c.range.ensures.value ∙ run_front 64 c.chunks.left caret (omega (arith, c.chunks-test.false))) ∙ h.split in
    puts_after g.S.Sink.takes g.S.Sink.fails g.met.S.Sink.joined g.met.S.Sink.failed_later _ _ _ _ _ _ _ all h.took c.put-2.ensures
