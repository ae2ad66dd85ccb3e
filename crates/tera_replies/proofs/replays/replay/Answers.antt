-- What is said of the watched writers is said of the writers.
use Rattle.std.proofs.Common.{rules}
use Rattle.tera_report.proofs.SentLaws.{watched_delivers}
use Rattle.tera_replies.proofs.ReplayLaws.{given_weaker, known_weaker, delivers_same, broke_watched, told_same, told_writer}
use Rattle.tera_replies.proofs.replays.replay.Goals as goal

pub returns-clause-known : goal.returns-clause-known
returns-clause-known g c =
    let out = g.W.Writer in
    let err = g.E.Writer in
    let first = c.new-watched_out.result in
    let last = c.replay_from.new.out in
    let silent = c.new-watched_err.result in
    let told = c.replay_from.new.err in
    known_weaker
    (λ text gets.
    let same = delivers_same out.contents out.wrote out.flushed first text last gets in
    let got = watched_delivers out.contents out.wrote out.flushed first text last gets in
    search rules)
    (λ text gets.
    let (same, broke) = broke_watched out.contents out.wrote out.flushed first text last gets in
    search rules)
    (λ text gets.
    let same = told_same err.contents err.wrote err.flushed silent text told gets in
    let got = told_writer err.contents err.wrote err.flushed silent text told gets in
    search rules)
    g.S.Source
    c.args.input
    _
    _
    _
    (λ before last reads. (c.replay_from.new.input, reads))
    (λ given ends. (c.replay_from.new.input, ends))
    (λ given failed. (c.replay_from.new.input, failed))
    c.replay_from.ensures.known

pub returns-clause-given : goal.returns-clause-given
returns-clause-given g c =
    let out = g.W.Writer in
    let err = g.E.Writer in
    let first = c.new-watched_out.result in
    let last = c.replay_from.new.out in
    let silent = c.new-watched_err.result in
    let told = c.replay_from.new.err in (
      c.replay_from.new.input,
      given_weaker
          (λ text gets.
          let same = delivers_same out.contents out.wrote out.flushed first text last gets in
          let got = watched_delivers out.contents out.wrote out.flushed first text last gets in
          search rules)
          (λ text gets.
          let (same, broke) = broke_watched out.contents out.wrote out.flushed first text last gets in
          search rules)
          (λ text gets.
          let same = told_same err.contents err.wrote err.flushed silent text told gets in
          let got = told_writer err.contents err.wrote err.flushed silent text told gets in
          search rules)
          g.S.Source
          c.args.input
          c.replay_from.new.input
          _
          c.replay_from.ensures.given,
    )
