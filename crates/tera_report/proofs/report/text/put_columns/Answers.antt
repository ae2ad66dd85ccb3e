use Rattle.std.proofs.Common.{rules, ◌≡◌, ◌⊎◌, inl, inr, ◌-◌, ◌+◌, ◌++◌, ◌∷◌, [], ℕ, zero, suc, List, map, take, arith, refl, sym, ap, ◌∙◌, subst}
use Rattle.std.proofs.lemmas.Str.{IsUtf8-past_char, chars_past_char}
use Rattle.std.specs.Char.{encode_utf8}
use Rattle.std.specs.Str.{IsUtf8, chars}
use Rattle.std.specs.Str.Iter.{chars_rest}
use Rattle.tera_report.specs.Report.{under}
use Rattle.tera_report.proofs.PutLaws.{none_so_far, more_so_far, all_so_far, broke_so_far}
use Rattle.tera_report.proofs.ReportLemmas.{no_characters}
use Rattle.tera_report.proofs.report.text.put_columns.Goals as goal
use Rattle.tera_report.proofs.report.text.put_columns.Goals.{else-loop-column-test, then-loop-column-test+in_default}

-- the next character
next : (rest later mark : List ℕ) (c n m : ℕ) → IsUtf8 rest → rest ≡ encode_utf8 c ++ later → mark ≡ under c ∷ [] → n ≡ suc m
    → mark ++ map under (take m (chars later)) ≡ map under (take n (chars rest))
next rest later mark c n m utf8 off is more =
    ap (λ l. l ++ map under (take m (chars later))) is ∙ sym (λ i. map under (take (more i) (chars_past_char rest later c utf8 off i)))

none_left : (n : ℕ) (xs : List ℕ) → (n ≡ 0) ⊎ (xs ≡ []) → map under (take n xs) ≡ []
none_left zero xs ended = refl
none_left (suc n) [] ended = refl
none_left (suc n) (x ∷ xs) (inl e) = absurd (cc)
none_left (suc n) (x ∷ xs) (inr e) = absurd (cc)

pub loop-column-init : goal.loop-column-init
loop-column-init g c =
    let same = c.chars-rest.ensures.rest in
    let all : c.args.count ≡ c.args.count - 0 = omega arith in (
      subst IsUtf8 (sym same) c.utf8.line,
      rw (same, ← all) (none_so_far g.S.Sink.takes _ _ (g.met.S.Sink.nothing _)),
    )

pub loop-column-preserved : goal.loop-column-preserved
loop-column-preserved g c =
    let (utf8, so_far) = c.loop-column.invariant in
    let off = c.in-Some.ensures.steps.0 in (
      IsUtf8-past_char _ _ c.in-Some.c utf8 off,
      more_so_far g.S.Sink.takes g.met.S.Sink.joined _ _ so_far (next _ _ _ c.in-Some.c _ _ utf8 off c.mark.ensures (omega arith)) c.in_ok-put.ensures,
    )

pub returns-in_err-put : goal.returns-in_err-put
returns-in_err-put g c =
    let (utf8, so_far) = c.loop-column.invariant in
    let left = next _ _ _ c.in-Some.c (c.args.count - c.loop-column.column) (c.args.count - (c.loop-column.column + 1)) utf8 c.in-Some.ensures.steps.0
    c.mark.ensures (omega arith) in
    let bad = broke_so_far g.S.Sink.takes g.S.Sink.fails g.met.S.Sink.failed_early g.met.S.Sink.failed_later _ _ so_far left c.in_err-put.ensures in
    search rules

pub returns : goal.returns
returns g c =
    let ended : (c.args.count - c.loop-column.column ≡ 0) ⊎ (chars (chars_rest c.loop-column.rest) ≡ []) = elim c.loop-column-test.branch [
      | else-loop-column-test w ↦ inl (omega arith)
      | then-loop-column-test+in_default w ↦ inr (no_characters _ w.in_default.ensures.steps.0.0)
    ]
    in
    all_so_far g.S.Sink.takes c.loop-column.invariant.1 (none_left _ _ ended)
