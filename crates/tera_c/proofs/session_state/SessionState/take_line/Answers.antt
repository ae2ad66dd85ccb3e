-- What came of a line, by what ended it.
use Rattle.std.proofs.Common.{rules, inl, inr, ap, sym, ◌∙◌, ◌≢◌, refl}
use Rattle.std.proofs.lemmas.Bool.{false≢true}
use Rattle.tera_report.specs.Errors.{report_of}
use Rattle.tera_replies.specs.declared.fault.Fault.TheVariants.{WriteFailed}
use Rattle.tera_c.proofs.LineLemmas.{skipped_wants_none}
use Rattle.tera_c.proofs.StateLemmas.{reply_is, report_same}
use Rattle.tera_c.proofs.session_state.SessionState.take_line.Goals as goal

pub returns-then-wanted : goal.returns-then-wanted
returns-then-wanted c =
    let runs = reply_is 1 _ _ _ c.in-Ok.wanted c.new-reply.result _ _ c.new-reply.ensures.empty c.into_text.ensures c.in-Ok.ensures.ok in
    record {
      comes = inl (c.in-Ok.wanted, runs, search rules);
      skipped = λ skip. absurd (false≢true (sym (skipped_wants_none c.skipped_says_nothing.ensures 1 _ _ _ _ _ runs skip) ∙ c.if-wanted.true));
      lent = λ found. absurd (false≢true (sym (c.in-Ok.ensures.lent found.1.0 found.1.1 found.0 found.1.2) ∙ c.if-wanted.true));
    }

pub returns-in-Ok : goal.returns-in-Ok
returns-in-Ok c =
    let runs = reply_is 1 _ _ _ c.in-Ok.wanted c.new-reply.result _ _ c.new-reply.ensures.empty c.into_text.ensures c.in-Ok.ensures.ok in
    record { comes = inl (c.in-Ok.wanted, runs, search rules); skipped = λ skip. refl; lent = λ found. inl refl }

pub returns-in-Err-BadLine : goal.returns-in-Err-BadLine
returns-in-Err-BadLine c =
    let told = rw c.in-Err-BadLine.field-0-is at c.in-Err-BadLine.ensures.err in
    let other : c.in-Err-BadLine.field-0 ≢ WriteFailed = search rules in
    let same = c.in-Err-BadLine.ensures.unchanged other in
    record {
      comes = elim c.keep_report.ensures [
        | inl (reply, context, status) ↦
            inr (inl (told.1, (report_same _ _ reply (ap report_of c.deref.ensures ∙ told.0), context ∙ same, status)))
        | inr (context, reply, status) ↦ inr (inr (inl (context ∙ same, reply, status)))
      ];
      skipped = λ skip. absurd (told.1.0 skip);
      lent = λ found. absurd (other (c.in-Err-BadLine.ensures.lent found.1.0 found.1.1 found.0 found.1.2));
    }

pub returns-in-Err-WriteFailed : goal.returns-in-Err-WriteFailed
returns-in-Err-WriteFailed c =
    let (text, want, runs, broke) = rw c.in-Err-WriteFailed.field-0-is at c.in-Err-WriteFailed.ensures.err in
    record {
      comes = inr (inr (inr ((text, want, runs), c.new.ensures.bytes, refl)));
      skipped = λ skip. absurd (false≢true (c.in-Err-WriteFailed.ensures.skipped skip));
      lent = λ found. inr refl;
    }
