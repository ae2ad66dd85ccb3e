use Rattle.std.proofs.Common.{rules, refl, ◌++◌, map, string_bytes, codes, append_assoc}
use Rattle.std.proofs.lemmas.Result.{MatchResult-weaker}
use Rattle.std.specs.List.{flat_map}
use Rattle.tera_report.specs.Refusal.{TellsChain}
use Rattle.tera_report.proofs.PutLaws.{failed_of}
use Rattle.tera_report.proofs.QuoteLaws.{some_list}
use Rattle.tera_report.proofs.errors.texts.put_chain.Goals as goal

pub returns-in_err-put_all : goal.returns-in_err-put_all
returns-in_err-put_all g c =
    let texts = map string_bytes c.args.names.now in
    let words = flat_map (λ p. p.now) c.args.words.now in
    let names = some_list texts in
    let failed = g.met.S.Sink.failed_early _ _ _ (names.0 ++ codes "`") c.in_err-put_all.ensures in
    let bad = failed_of g.S.Sink.fails (TellsChain words texts) _ _ _ (names.0, names.1, refl) failed in
    search rules

pub returns-in_err-put_quoted_list : goal.returns-in_err-put_quoted_list
returns-in_err-put_quoted_list g c =
    let texts = map string_bytes c.args.names.now in
    let words = flat_map (λ p. p.now) c.args.words.now in
    let (names, stands, refused) = c.in_err-put_quoted_list.ensures in
    let failed = g.met.S.Sink.failed_later _ words _ (names ++ codes "`") _ c.in_ok-put_all.ensures (g.met.S.Sink.failed_early _ _ _ (codes "`") refused) in
    let bad = failed_of g.S.Sink.fails (TellsChain words texts) _ _ _ (names, stands, refl) failed in
    search rules

pub returns : goal.returns
returns g c =
    let words = flat_map (λ p. p.now) c.args.words.now in
    let (names, stands, took) = c.in_ok-put_quoted_list.ensures in
    let first = g.met.S.Sink.joined _ words _ names _ c.in_ok-put_all.ensures took in
    MatchResult-weaker c.put.result c.put.ensures
    (λ _ last. (_, (names, stands, append_assoc words names (codes "`")), g.met.S.Sink.joined _ _ _ (codes "`") _ first last))
    (λ _ bad. (_, (names, stands, append_assoc words names (codes "`")), g.met.S.Sink.failed_later _ _ _ (codes "`") _ first bad))
