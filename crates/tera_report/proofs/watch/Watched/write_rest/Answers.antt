use Rattle.std.proofs.lemmas.Bool.{true_from_ne_false, or_parts}
use Rattle.std.proofs.lemmas.List.{nil_from_length}
use Rattle.std.proofs.Common.{◌≡◌, ◌+◌, ◌-◌, ◌^◌, ◌≤◌, ◌++◌, true, true≢false, Ok, Err, length, take, drop, ap, sym, ◌∙◌, refl, subst, []}
use Rattle.std.proofs.Common.{append-nil, length-append, rules, arith, IsTrue}
use Rattle.std.specs.declared.io.Error.{Error}
use Rattle.tera_report.specs.inner.SinkLaws.{keeps_appends}
use Rattle.tera_report.specs.inner.WriterLaws.{all_joined, taken_more, faults_more, once}
use Rattle.tera_report.specs.Writer.{is_fault, all_taken, has_fault}
use Rattle.tera_report.proofs.WatchLemmas.{none_tried, one_more, tried_takes, tried_fails, failed_here, split_later, turn_took_one, some_if_fault, ended_late}
use Rattle.tera_report.proofs.watch.Watched.write_rest.Goals as goal
use Rattle.tera_report.proofs.watch.Watched.write_rest.Goals.{in-Ok, in-Err+else-not-matches, in-Interrupted, in_default}

pub loop-turn-init : goal.loop-turn-init
loop-turn-init g c = ([], none_tried g.W.Writer.contents g.W.Writer.wrote _, refl, tt, refl, λ h. omega arith)

pub returns-then-is_empty : goal.returns-then-is_empty
returns-then-is_empty g c =
    let (attempts, h, split, steady, turns, told) = c.loop-turn.invariant in
    let none = nil_from_length c.loop-turn.rest.now (search rules) in
    tried_takes g.W.Writer.contents g.W.Writer.wrote _ _ attempts _ h steady (sym (append-nil _) ∙ ap (λ l. all_taken attempts ++ l) (sym none) ∙ split)

pub returns-then-is_empty-2 : goal.returns-then-is_empty-2
returns-then-is_empty-2 g c =
    let (attempts, h, split, steady, turns, told) = c.loop-turn.invariant in
    let none = nil_from_length c.loop-turn.rest.now (search rules) in
    tried_takes g.W.Writer.contents g.W.Writer.wrote _ _ attempts _ h steady (sym (append-nil _) ∙ ap (λ l. all_taken attempts ++ l) (sym none) ∙ split)

pub returns-in-Ok-eq0 : goal.returns-in-Ok-eq0
returns-in-Ok-eq0 g c =
    let (attempts, h, split, steady, turns, told) = c.loop-turn.invariant in
    let e = c.in-Ok-eq0.ensures in
    let some : is_fault {E = Error} (Ok 0) c.loop-turn.rest.now ≡ true = search rules in
    failed_here g.W.Writer.contents g.W.Writer.wrote _ _ _ attempts c.loop-turn.rest.now (Ok c.in-Ok-eq0.field-0) h e.wrote e.bytes e.same e.told _ split
    (subst (λ n. is_fault {E = Error} (Ok n) c.loop-turn.rest.now ≡ true) (sym c.in-Ok-eq0.field-0-test) some)
    (subst (λ n. take n c.loop-turn.rest.now ≡ []) (sym c.in-Ok-eq0.field-0-test) refl) (some_if_fault _ some) steady
    (c.in-Ok-eq0.field-0-test, some_if_fault _ some)

pub returns-then-not-matches : goal.returns-then-not-matches
returns-then-not-matches g c =
    let (attempts, h, split, steady, turns, told) = c.loop-turn.invariant in
    let e = c.in-Err.ensures in
    let some : is_fault {E = Error} (Ok 0) c.loop-turn.rest.now ≡ true = search rules in
    failed_here g.W.Writer.contents g.W.Writer.wrote _ _ _ attempts c.loop-turn.rest.now (Err c.in-Err.e) h e.wrote (keeps_appends _ _ e.bytes) e.same e.told _
    split refl refl (some_if_fault _ some) steady
    (λ on. elim c.match-matches.branch [
      | in-Interrupted w ↦ absurd (true≢false (sym w.matches-is ∙ c.if-not-matches.true))
      | in_default w ↦ absurd (w.in_default.not-Interrupted (c.kind.ensures ∙ on))
    ])

pub loop-turn-preserved : goal.loop-turn-preserved
loop-turn-preserved g c =
    let (attempts, h, split, steady, turns, told) = c.loop-turn.invariant in
    let rest = c.loop-turn.rest.now in
    elim c.match-write.branch [
      | in-Ok w ↦
          let n = w.in-Ok.taken in
          let e = w.in-Ok.ensures in
          let left : c.match-write.rest.now ≡ take (length rest - n) (drop n rest) = ap (λ r. r.now) w.rest-is in
          rw left (
            attempts ++ once rest (Ok n),
            one_more g.W.Writer.contents g.W.Writer.wrote _ _ _ attempts rest (Ok n) h e.wrote e.bytes e.same e.told,
            ap (λ l. l ++ take (length rest - n) (drop n rest)) (taken_more attempts rest (Ok n)) ∙ split_later (all_taken attempts) rest _ n split,
            all_joined _ attempts _ steady (omega (arith, w.in-Ok.taken-test.1), tt),
            length-append attempts (once rest (Ok n)) ∙ ap (λ n. n + 1) turns,
            (λ quiet. turn_took_one rest _ n _ w.in-Ok.taken-test.1 e.bound
                (told (or_parts (has_fault attempts) _ (sym (faults_more attempts rest (Ok n)) ∙ quiet)).0)),
          )
      | in-Err+else-not-matches w ↦
          let e = w.in-Err.ensures in
          let left : c.match-write.rest.now ≡ rest = ap (λ r. r.now) w.rest-is in
          let answer = Err w.in-Err.e in
          rw left (
            attempts ++ once rest answer,
            one_more g.W.Writer.contents g.W.Writer.wrote _ _ _ attempts rest answer h e.wrote (keeps_appends _ _ e.bytes) e.same e.told,
            ap (λ l. l ++ rest) (taken_more attempts rest answer ∙ append-nil (all_taken attempts)) ∙ split,
            all_joined _ attempts _ steady (
              elim w.match-matches.branch [
                | in-Interrupted v ↦ sym w.kind.ensures ∙ v.in-Interrupted.is
                | in_default v ↦ absurd (true≢false (sym w.if-not-matches.false ∙ v.matches-is))
              ],
              tt,
            ),
            length-append attempts (once rest answer) ∙ ap (λ n. n + 1) turns,
            (λ quiet. let wrong = (or_parts (has_fault attempts) true (sym (faults_more attempts rest answer) ∙ quiet)).1 in absurd (cc)),
          )
    ]

pub returns : goal.returns
returns g c =
    let (attempts, h, split, steady, turns, told) = c.loop-turn.invariant in
    let fault : IsTrue (has_fault attempts) = true_from_ne_false _ (λ quiet. let late = told quiet in search rules) in
    let late : 2 ^ 64 - 1 ≤ length attempts = omega (arith, turns, c.loop-turn-test.false) in
    let (before, last, ended, gone_on) = ended_late attempts late steady in
    tried_fails g.W.Writer.contents g.W.Writer.wrote _ _ attempts _ h fault c.loop-turn.rest.now split
    (λ none. let is = ap length none in search rules) before last ended gone_on (λ few. absurd (omega (arith, few, late)))
