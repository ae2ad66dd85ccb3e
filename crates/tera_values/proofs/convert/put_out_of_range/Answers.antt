use Rattle.std.proofs.Common.{rules, ◌++◌, codes, List, ℕ, Some, append_assoc, subst, sym, refl}
use Rattle.std.proofs.lemmas.Result.{MatchResult-weaker}
use Rattle.std.specs.Fmt.{◌++?◌}
use Rattle.tera_meaning.specs.Meaning.{layout}
use Rattle.tera_report.specs.Quoted.{IsText}
use Rattle.tera_report.proofs.PutLaws.{failed_of, some_text, texts_joined}
use Rattle.tera_values.specs.Converted.{range_text}
use Rattle.tera_values.specs.Print.{printed_if_exact}
use Rattle.tera_values.proofs.ConvertLemmas.{printed_is_text}
use Rattle.tera_values.proofs.convert.put_out_of_range.Goals as goal

abbrev last_words : List ℕ → List ℕ
last_words target = codes "` is out of range for `" ++ (target ++ codes "`")

pub returns-in_err-put : goal.returns-in_err-put
returns-in_err-put g c =
    let value = layout c.args.value.now in
    let more = Some (last_words c.args.target.now) in
    let (rest, text) = some_text (printed_if_exact value ++? more) in
    let failed = g.met.S.Sink.failed_early _ (codes "Value `") _ rest c.in_err-put.ensures in
    let bad = failed_of g.S.Sink.fails (IsText (range_text c.args.value.now c.args.target.now)) _ _ _
    (texts_joined (Some (codes "Value `")) (printed_if_exact value ++? more) (codes "Value `") rest refl text) failed in
    search rules

pub returns-in_err-put_value : goal.returns-in_err-put_value
returns-in_err-put_value g c =
    let value = layout c.args.value.now in
    let last = last_words c.args.target.now in
    let (bytes, prints, refused) = c.in_err-put_value.ensures in
    let text = texts_joined (printed_if_exact value) (Some last) bytes last (printed_is_text value bytes prints) refl in
    let failed = g.met.S.Sink.failed_later _ (codes "Value `") _ (bytes ++ last) _ c.in_ok-put.ensures (g.met.S.Sink.failed_early _ _ _ last refused) in
    let bad = failed_of g.S.Sink.fails (IsText (range_text c.args.value.now c.args.target.now)) _ _ _
    (texts_joined (Some (codes "Value `")) (printed_if_exact value ++? Some last) (codes "Value `") (bytes ++ last) refl text) failed in
    search rules

pub returns : goal.returns
returns g c =
    let value = layout c.args.value.now in
    let last = last_words c.args.target.now in
    let (bytes, prints, took) = c.in_ok-put_value.ensures in
    let text = texts_joined (printed_if_exact value) (Some last) bytes last (printed_is_text value bytes prints) refl in
    let whole =
    subst (IsText (range_text c.args.value.now c.args.target.now)) (sym (append_assoc (codes "Value `") bytes last))
    (texts_joined (Some (codes "Value `")) (printed_if_exact value ++? Some last) (codes "Value `") (bytes ++ last) refl text) in
    let first = g.met.S.Sink.joined _ (codes "Value `") _ bytes _ c.in_ok-put.ensures took in
    MatchResult-weaker c.put_all.result c.put_all.ensures
    (λ _ put. (_, whole, g.met.S.Sink.joined _ _ _ last _ first put))
    (λ _ bad. (_, whole, g.met.S.Sink.failed_later _ _ _ last _ first bad))
