use Rattle.tera_script.proofs.Lines.{is_skipped, bad_utf8, bad_command, line_says}
use Rattle.tera_script.proofs.why.expected.Goals as goal

pub returns-then-is_end_or_comment : goal.returns-then-is_end_or_comment
returns-then-is_end_or_comment c = λ bad.
    bad.0 (is_skipped c.past_blanks-bytes.ensures c.is_end_or_comment.ensures c.if-is_end_or_comment.true)

pub returns-then-not-is_utf8 : goal.returns-then-not-is_utf8
returns-then-not-is_utf8 c = (
  bad_utf8 c.past_blanks-bytes.ensures c.is_end_or_comment.ensures c.if-is_end_or_comment.false c.if-not-is_utf8.ensures,
  c.place.ensures,
)

pub returns-in-Ok : goal.returns-in-Ok
returns-in-Ok c = λ bad.
    bad.1 c.in-Ok.ensures.0 (line_says c.past_blanks-bytes.ensures c.is_end_or_comment.ensures c.if-not-is_utf8.ensures c.in-Ok.ensures.1)

pub returns-in-Err : goal.returns-in-Err
returns-in-Err c = (
  bad_command c.past_blanks-bytes.ensures c.is_end_or_comment.ensures c.if-is_end_or_comment.false c.in-Err.ensures,
  c.place-in-Err.ensures,
)
