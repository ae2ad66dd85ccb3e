use Rattle.tera_cli.proofs.order.order_of.Goals as goal

pub returns-in-Some : goal.returns-in-Some
returns-in-Some c = (c.trim_ascii-word.result.now, c.trim_ascii-word.ensures.value, rw (c.as_slice-else-eq-5.ensures) at c.in-Some.ensures)

pub returns-in-Some-file_behind : goal.returns-in-Some-file_behind
returns-in-Some-file_behind c =
    (c.trim_ascii-word.result.now, c.trim_ascii-word.ensures.value, rw (c.as_slice-in_default.ensures) at c.in-Some-file_behind.ensures)
