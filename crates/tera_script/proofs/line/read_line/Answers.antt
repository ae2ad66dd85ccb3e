use Rattle.tera_script.proofs.Lines.{is_skipped, bad_utf8, bad_command, line_says, free_line}
use Rattle.tera_script.proofs.line.read_line.Goals as goal

pub returns-then-is_end_or_comment-clause-reading : goal.returns-then-is_end_or_comment-clause-reading
returns-then-is_end_or_comment-clause-reading c = is_skipped c.past_blanks-bytes.ensures c.is_end_or_comment.ensures c.if-is_end_or_comment.true

pub returns-then-not-is_utf8-clause-reading : goal.returns-then-not-is_utf8-clause-reading
returns-then-not-is_utf8-clause-reading c = bad_utf8 c.past_blanks-bytes.ensures c.is_end_or_comment.ensures c.if-is_end_or_comment.false
    c.if-not-is_utf8.ensures

pub returns-in_err-command-clause-free : goal.returns-in_err-command-clause-free
returns-in_err-command-clause-free c = λ h.
    absurd (cc (c.in_err-command.ensures.free
    (free_line c.past_blanks-bytes.ensures c.is_end_or_comment.ensures c.if-is_end_or_comment.false c.if-not-is_utf8.ensures h)))

pub returns-in-Some-clause-reading : goal.returns-in-Some-clause-reading
returns-in-Some-clause-reading c =
    line_says c.past_blanks-bytes.ensures c.is_end_or_comment.ensures c.if-not-is_utf8.ensures (rw (c.in-Some.is) at c.in_ok-command.ensures.command)

pub returns-in-None-clause-reading : goal.returns-in-None-clause-reading
returns-in-None-clause-reading c =
    bad_command c.past_blanks-bytes.ensures c.is_end_or_comment.ensures c.if-is_end_or_comment.false (rw (c.in-None.is) at c.in_ok-command.ensures.command)
