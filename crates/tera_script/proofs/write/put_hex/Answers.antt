use Rattle.std.proofs.Common.{rules, refl, ◌≡◌, ◌+◌, ◌/◌, ◌%◌, ◌∷◌, ◌++◌, [], sym, ap, drop, get_or}
use Rattle.std.specs.Char.{digit_char}
use Rattle.std.proofs.lemmas.List.{drop_more, drop_all}
use Rattle.tera_report.proofs.PutLaws.{more_so_far, all_so_far, broke_so_far, none_so_far}
use Rattle.tera_script.specs.Written.{bytes_literal}
use Rattle.tera_script.proofs.write.put_hex.Goals as goal

pub loop-byte-init : goal.loop-byte-init
loop-byte-init g c = none_so_far g.S.Sink.takes _ (bytes_literal c.args.held.now) (g.met.S.Sink.nothing _)

pub loop-byte-preserved : goal.loop-byte-preserved
loop-byte-preserved g c =
    let i = c.loop-byte.byte-index in
    let b = get_or c.args.held.now i 0 in
    let others = drop (i + 1) c.args.held.now in
    let left : drop i c.args.held.now ≡ b ∷ others =
    drop_more c.args.held.now i 0 c.loop-byte-test.true in
    more_so_far g.S.Sink.takes g.met.S.Sink.joined (digit_char (b / 16) ∷ digit_char (b % 16) ∷ []) (bytes_literal others) c.loop-byte.invariant
    (ap bytes_literal (sym left))
    (g.met.S.Sink.joined _ (digit_char (b / 16) ∷ []) _ (digit_char (b % 16) ∷ []) _ c.in_ok-put_digit.ensures c.in_ok-put_digit-2.ensures)

pub returns : goal.returns
returns g c =
    let none = drop_all c.loop-byte.byte-index c.args.held.now c.loop-byte-test.false in
    all_so_far g.S.Sink.takes c.loop-byte.invariant (ap bytes_literal none)

pub returns-in_err-put_digit : goal.returns-in_err-put_digit
returns-in_err-put_digit g c =
    let i = c.loop-byte.byte-index in
    let b = get_or c.args.held.now i 0 in
    let others = drop (i + 1) c.args.held.now in
    let left : drop i c.args.held.now ≡ b ∷ others =
    drop_more c.args.held.now i 0 c.loop-byte-test.true in
    let bad = broke_so_far g.S.Sink.takes g.S.Sink.fails g.met.S.Sink.failed_early g.met.S.Sink.failed_later (digit_char (b / 16) ∷ [])
    (digit_char (b % 16) ∷ bytes_literal others) c.loop-byte.invariant (ap bytes_literal (sym left)) c.in_err-put_digit.ensures in
    search rules

pub returns-in_err-put_digit-2 : goal.returns-in_err-put_digit-2
returns-in_err-put_digit-2 g c =
    let i = c.loop-byte.byte-index in
    let b = get_or c.args.held.now i 0 in
    let others = drop (i + 1) c.args.held.now in
    let left : drop i c.args.held.now ≡ b ∷ others =
    drop_more c.args.held.now i 0 c.loop-byte-test.true in
    let bad = broke_so_far g.S.Sink.takes g.S.Sink.fails g.met.S.Sink.failed_early g.met.S.Sink.failed_later
    (digit_char (b / 16) ∷ digit_char (b % 16) ∷ []) (bytes_literal others) c.loop-byte.invariant (ap bytes_literal (sym left))
    (g.met.S.Sink.failed_later _ (digit_char (b / 16) ∷ []) _ (digit_char (b % 16) ∷ []) _ c.in_ok-put_digit.ensures c.in_err-put_digit-2.ensures) in
    search rules
