-- One write took all of the bytes, or failed, or more writes took the rest.
use Rattle.std.proofs.Common.{◌≡◌, ◌-◌, ◌++◌, [], true, true≢false, Ok, Err, length, take, drop, ap, sym, ◌∙◌, refl, subst}
use Rattle.std.proofs.Common.{rules, take-append-drop, append-nil, arith}
use Rattle.std.proofs.Math.Seq.{take-length}
use Rattle.std.proofs.lemmas.List.{nil_from_length, take_rest}
use Rattle.std.specs.IoError.{error_kind}
use Rattle.std.specs.declared.io.Error.{Error}
use Rattle.std.specs.declared.io.ErrorKind.TheVariants.{Interrupted}
use Rattle.tera_report.specs.inner.SinkLaws.{keeps_appends, watched_joined, watched_later}
use Rattle.tera_report.specs.Watch.{WatchedTakes, WatchedFails}
use Rattle.tera_report.specs.Writer.{is_fault}
use Rattle.tera_report.specs.inner.WriterLaws.{once}
use Rattle.tera_report.proofs.PutLaws.{puts_after}
use Rattle.tera_report.proofs.WatchLemmas.{none_tried, one_more, tried_takes, failed_here, some_if_fault}
use Rattle.tera_report.proofs.watch.WatchedWrite.write_all.Goals as goal
use Rattle.tera_report.proofs.watch.WatchedWrite.write_all.Goals.{in-Interrupted, in_default}

pub returns-then-is_empty-clause-told : goal.returns-then-is_empty-clause-told
returns-then-is_empty-clause-told g c =
    let none = nil_from_length c.args.buf.now (search rules) in
    tried_takes g.W.Writer.contents g.W.Writer.wrote _ _ [] _ (none_tried _ _ _) tt (sym none)

pub returns-in-Ok-eq0-clause-told : goal.returns-in-Ok-eq0-clause-told
returns-in-Ok-eq0-clause-told g c =
    let buf = c.args.buf.now in
    let e = rw c.in-Ok-eq0.is at c.write.ensures in
    let some : is_fault {E = Error} (Ok 0) buf ≡ true = search rules in
    failed_here g.W.Writer.contents g.W.Writer.wrote _ _ _ [] buf (Ok c.in-Ok-eq0.field-0) (none_tried _ _ _) e.wrote e.bytes e.same e.told buf refl
    (subst (λ n. is_fault {E = Error} (Ok n) buf ≡ true) (sym c.in-Ok-eq0.field-0-test) some)
    (subst (λ n. take n buf ≡ []) (sym c.in-Ok-eq0.field-0-test) refl) (some_if_fault _ some) tt
    (c.in-Ok-eq0.field-0-test, some_if_fault _ some)

pub returns-in-Ok-clause-told : goal.returns-in-Ok-clause-told
returns-in-Ok-clause-told g c =
    let e = c.in-Ok.ensures in
    let buf = c.args.buf.now in
    let all : take c.in-Ok.taken buf ≡ buf = ap (λ n. take n buf) c.if-taken-buf.true ∙ take-length buf in
    tried_takes g.W.Writer.contents g.W.Writer.wrote _ _ _ _
    (one_more _ _ _ _ _ [] buf (Ok c.in-Ok.taken) (none_tried _ _ _) e.wrote e.bytes e.same e.told)
    (omega (arith, c.in-Ok.taken-test.1), tt) (append-nil _ ∙ all)

pub returns-in-Ok-2-clause-told : goal.returns-in-Ok-2-clause-told
returns-in-Ok-2-clause-told g c =
    let e = c.in-Ok.ensures in
    let buf = c.args.buf.now in
    let n = c.in-Ok.taken in
    let rest = take (length buf - n) (drop n buf) in
    let whole : take n buf ++ rest ≡ buf = ap (λ l. take n buf ++ l) (take_rest buf n) ∙ take-append-drop n buf in
    let first = tried_takes g.W.Writer.contents g.W.Writer.wrote c.args.self.now c.write.new.self (once buf (Ok n)) (take n buf)
    (one_more _ _ _ _ _ [] buf (Ok n) (none_tried _ _ _) e.wrote e.bytes e.same e.told) (omega (arith, c.in-Ok.taken-test.1), tt) (append-nil _) in
    puts_after (WatchedTakes g.W.Writer.contents g.W.Writer.wrote) (WatchedFails g.W.Writer.contents g.W.Writer.wrote) (watched_joined _ _) (watched_later _ _)
    c.write_rest.result (take n buf) rest buf _ _ _ whole first c.write_rest.ensures

pub returns-in-Err-clause-told : goal.returns-in-Err-clause-told
returns-in-Err-clause-told g c =
    let e = c.in-Err.ensures in
    let buf = c.args.buf.now in
    let interrupted : error_kind c.in-Err.e ≡ Interrupted = elim c.match-matches.branch [
      | in-Interrupted w ↦ sym c.kind.ensures ∙ w.in-Interrupted.is
      | in_default w ↦ absurd (true≢false (sym c.if-matches.true ∙ w.matches-is))
    ] in
    let first = tried_takes g.W.Writer.contents g.W.Writer.wrote c.args.self.now c.write.new.self (once buf (Err c.in-Err.e)) []
    (one_more _ _ _ _ _ [] buf (Err c.in-Err.e) (none_tried _ _ _) e.wrote (keeps_appends _ _ e.bytes) e.same e.told) (interrupted, tt) refl in
    puts_after (WatchedTakes g.W.Writer.contents g.W.Writer.wrote) (WatchedFails g.W.Writer.contents g.W.Writer.wrote) (watched_joined _ _) (watched_later _ _)
    c.write_rest-in-Err.result [] buf buf _ _ _ refl first c.write_rest-in-Err.ensures

pub returns-in-Err-2-clause-told : goal.returns-in-Err-2-clause-told
returns-in-Err-2-clause-told g c =
    let e = c.in-Err-2.ensures in
    let buf = c.args.buf.now in
    let some : is_fault {E = Error} (Ok 0) buf ≡ true = search rules in
    failed_here g.W.Writer.contents g.W.Writer.wrote _ _ _ [] buf (Err c.in-Err-2.e) (none_tried _ _ _) e.wrote (keeps_appends _ _ e.bytes) e.same e.told buf
    refl refl refl (some_if_fault _ some) tt
    (λ on. elim c.match-matches.branch [
      | in-Interrupted w ↦ absurd (true≢false (sym w.matches-is ∙ c.if-matches.false))
      | in_default w ↦ absurd (w.in_default.not-Interrupted (c.kind.ensures ∙ ap error_kind c.in-Err-2.e-is ∙ on))
    ])
