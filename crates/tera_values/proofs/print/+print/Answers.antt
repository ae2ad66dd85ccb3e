use Rattle.std.proofs.Common.{rules, refl, ◌≡◌, ◌+◌, ◌∷◌, ◌++◌, [], sym, ap, subst, ◌∙◌, arith, drop, codes}
use Rattle.std.proofs.lemmas.List.{drop_more, drop_all}
use Rattle.std.proofs.lemmas.Result.{MatchResult-weaker}
use Rattle.tera_meaning.specs.Form.{Form}
use Rattle.tera_meaning.specs.KeyMeaning.{KeyForm, key_meaning}
use Rattle.tera_meaning.specs.Meaning.{layout}
use Rattle.tera_meaning.specs.Printed.{printed_with, printed_key}
use Rattle.tera_meaning.specs.Quoted.{Prints, PrintsInside}
use Rattle.tera_meaning.proofs.QuotedLaws.{inside_prints, key_prints}
use Rattle.tera_report.specs.Quoted.{quoted}
use Rattle.tera_meaning.specs.Tree.{array, object, items, members, items_depth}
use Rattle.tera_values.specs.Key.{key_form}
use Rattle.tera_values.specs.Print.{items_layout, pairs_layout, PrintsItems, PrintsLaterItems, PrintsPairs, PrintsLaterPairs, PrintsPair}
use Rattle.tera_values.proofs.PrintPairs.{first_pair_leads, next_pair_leads}
use Rattle.tera_values.proofs.PartsLaws.{depth_at, first_depth}
use Rattle.tera_report.proofs.PutLaws.{failed_of, leads_more, leads_broke, leads_done}
use Rattle.tera_values.proofs.PrintLemmas.{put_last, put_more, some_items, some_pairs, array_printed, map_printed}
use Rattle.tera_values.proofs.PrintLemmas.{first_leads, next_leads, text_inside, other_inside}
use Rattle.tera_values.proofs.print.+print.Goals as goal

pub put_array-returns-in_err-put : goal.put_array-returns-in_err-put
put_array-returns-in_err-put g t c =
    let all = c.args.all.now in
    let (inner, prints) = some_items [] (items_layout all) in
    let failed = g.met.S.Sink.failed_early _ (codes "[") _ (inner ++ codes "]") c.in_err-put.ensures in
    let bad = failed_of g.S.Sink.fails (Prints (layout (array (items all)))) _ _ _ (array_printed all inner prints) failed in
    search rules

pub put_array-returns-in_err-put_items : goal.put_array-returns-in_err-put_items
put_array-returns-in_err-put_items g t c =
    let all = c.args.all.now in
    let (inner, prints, refused) = c.in_err-put_items.ensures in
    let failed = g.met.S.Sink.failed_early _ _ _ (codes "]") (g.met.S.Sink.failed_later _ (codes "[") _ inner _ c.in_ok-put.ensures refused) in
    let bad = failed_of g.S.Sink.fails (Prints (layout (array (items all)))) _ _ _ (array_printed all inner prints) failed in
    search rules

pub put_array-returns : goal.put_array-returns
put_array-returns g t c =
    let all = c.args.all.now in
    let (inner, prints, took) = c.in_ok-put_items.ensures in
    let first = g.met.S.Sink.joined _ (codes "[") _ inner _ c.in_ok-put.ensures took in
    put_last g.S.Sink.takes g.S.Sink.fails g.met.S.Sink.joined g.met.S.Sink.failed_later
    (Prints (layout (array (items all)))) c.put-2.result _ (codes "]") _ _ _ (array_printed all inner prints) first c.put-2.ensures

pub put_items-put_inside-requires-in-loop-item : goal.put_items-put_inside-requires-in-loop-item
put_items-put_inside-requires-in-loop-item g t c κs within =
    let all = ap (λ xs. items_depth (items xs)) c.in-Some.ensures.cases.0 in
    let less_deep = depth_at c.in-Some.others.now c.loop-item.item-index c.item-item.result c.loop-item-test.true c.item-item.is in
    (omega (arith, less_deep, all), within)

pub put_items-loop-item-preserved : goal.put_items-loop-item-preserved
put_items-loop-item-preserved g t c =
    let (bytes, prints, put) = c.in_ok-put_inside-2.ensures in
    let i = c.loop-item.item-index in
    let left : drop i c.in-Some.others.now ≡ c.item-item.result ∷ drop (i + 1) c.in-Some.others.now =
    drop_more c.in-Some.others.now i c.item-item.result c.loop-item-test.true
    ∙ ap (λ v. v ∷ drop (i + 1) c.in-Some.others.now) (sym c.item-item.is) in
    leads_more g.S.Sink.takes g.met.S.Sink.joined (codes ", " ++ bytes) c.loop-item.invariant
    (next_leads _ _ c.item-item.result bytes left prints)
    (g.met.S.Sink.joined _ (codes ", ") _ bytes _ c.in_ok-put.ensures put)

pub put_items-returns : goal.put_items-returns
put_items-returns g t c =
    let none = drop_all c.loop-item.item-index c.in-Some.others.now c.loop-item-test.false in
    leads_done g.S.Sink.takes c.loop-item.invariant (subst (λ l. PrintsLaterItems l []) (sym none) refl)

pub put_inside-returns-in-Some : goal.put_inside-returns-in-Some
put_inside-returns-in-Some g t c =
    MatchResult-weaker c.put_quoted.result c.put_quoted.ensures
    (λ _ put. (put.0, text_inside c.args.value.now c.in-Some.text.now put.0 c.in-Some.ensures put.1, put.2))
    (λ _ bad. (bad.0, text_inside c.args.value.now c.in-Some.text.now bad.0 c.in-Some.ensures bad.1, bad.2))

pub put_inside-returns-in-None : goal.put_inside-returns-in-None
put_inside-returns-in-None g t c =
    MatchResult-weaker c.put_unquoted.result c.put_unquoted.ensures
    (λ _ put. (put.0, other_inside c.args.value.now put.0 c.in-None.ensures put.1, put.2))
    (λ _ bad. (bad.0, other_inside c.args.value.now bad.0 c.in-None.ensures bad.1, bad.2))

pub put_map-returns-in_err-put : goal.put_map-returns-in_err-put
put_map-returns-in_err-put g t c =
    let all = c.args.map.now in
    let (inner, prints) = some_pairs [] (pairs_layout all) in
    let failed = g.met.S.Sink.failed_early _ (codes "{") _ (inner ++ codes "}") c.in_err-put.ensures in
    let bad = failed_of g.S.Sink.fails (Prints (layout (object (members all)))) _ _ _ (map_printed all inner prints) failed in
    search rules

pub put_map-returns-in_err-put_pairs : goal.put_map-returns-in_err-put_pairs
put_map-returns-in_err-put_pairs g t c =
    let all = c.args.map.now in
    let (inner, prints, refused) = c.in_err-put_pairs.ensures in
    let failed = g.met.S.Sink.failed_early _ _ _ (codes "}") (g.met.S.Sink.failed_later _ (codes "{") _ inner _ c.in_ok-put.ensures refused) in
    let bad = failed_of g.S.Sink.fails (Prints (layout (object (members all)))) _ _ _ (map_printed all inner prints) failed in
    search rules

pub put_map-returns : goal.put_map-returns
put_map-returns g t c =
    let all = c.args.map.now in
    let (inner, prints, took) = c.in_ok-put_pairs.ensures in
    let first = g.met.S.Sink.joined _ (codes "{") _ inner _ c.in_ok-put.ensures took in
    put_last g.S.Sink.takes g.S.Sink.fails g.met.S.Sink.joined g.met.S.Sink.failed_later
    (Prints (layout (object (members all)))) c.put-2.result _ (codes "}") _ _ _ (map_printed all inner prints) first c.put-2.ensures

pub put_pair-returns : goal.put_pair-returns
put_pair-returns g t c =
    let (bytes, prints, took) = c.in_ok-put_key.ensures in
    let colon = g.met.S.Sink.joined _ bytes _ (codes ": ") _ took c.in_ok-put.ensures in
    put_more g.S.Sink.takes g.S.Sink.fails g.met.S.Sink.joined g.met.S.Sink.failed_later (PrintsPair (key_form c.args.key.now) c.args.value.now)
    (PrintsInside (layout c.args.value.now)) c.put_inside.result _ _ _ _
    (λ rest has. (bytes, rest, prints, has, refl)) colon c.put_inside.ensures

pub put_pair-returns-in_err-put_key : goal.put_pair-returns-in_err-put_key
put_pair-returns-in_err-put_key g t c =
    let (bytes, prints, refused) = c.in_err-put_key.ensures in
    let value = layout c.args.value.now in
    let failed = g.met.S.Sink.failed_early _ _ _ (printed_with quoted value) (g.met.S.Sink.failed_early _ bytes _ (codes ": ") refused) in
    let bad = failed_of g.S.Sink.fails (PrintsPair (key_form c.args.key.now) c.args.value.now) _ _ _
    (bytes, printed_with quoted value, prints, inside_prints value, refl) failed in
    search rules

pub put_pair-returns-in_err-put : goal.put_pair-returns-in_err-put
put_pair-returns-in_err-put g t c =
    let (bytes, prints, took) = c.in_ok-put_key.ensures in
    let value = layout c.args.value.now in
    let failed = g.met.S.Sink.failed_early _ _ _ (printed_with quoted value)
    (g.met.S.Sink.failed_later _ bytes _ (codes ": ") _ took c.in_err-put.ensures) in
    let bad = failed_of g.S.Sink.fails (PrintsPair (key_form c.args.key.now) c.args.value.now) _ _ _
    (bytes, printed_with quoted value, prints, inside_prints value, refl) failed in
    search rules

pub put_items-returns-in_err-put_inside : goal.put_items-returns-in_err-put_inside
put_items-returns-in_err-put_inside g t c =
    let (bytes, prints, refused) = c.in_err-put_inside.ensures in
    let all = c.args.items.now in
    let others = c.in-Some.others.now in
    let (rest, more) = some_items (codes ", ") (items_layout others) in
    let failed = g.met.S.Sink.failed_early _ bytes _ rest refused in
    let bad = failed_of g.S.Sink.fails (PrintsItems all) _ _ _
    (first_leads all others c.in-Some.first.now bytes c.in-Some.ensures.cases.0 prints rest more) failed in
    search rules

pub put_items-returns-in_err-put : goal.put_items-returns-in_err-put
put_items-returns-in_err-put g t c =
    let i = c.loop-item.item-index in
    let item = c.item-item.result in
    let after = drop (i + 1) c.in-Some.others.now in
    let left : drop i c.in-Some.others.now ≡ item ∷ after =
    drop_more c.in-Some.others.now i item c.loop-item-test.true ∙ ap (λ v. v ∷ after) (sym c.item-item.is) in
    let (rest, more) = some_items (codes ", ") (items_layout after) in
    let bad = leads_broke g.S.Sink.takes g.S.Sink.fails g.met.S.Sink.failed_later g.met.S.Sink.failed_early (codes ", ")
    (printed_with quoted (layout item) ++ rest) c.loop-item.invariant
    (next_leads _ after item _ left (inside_prints (layout item)) rest more) c.in_err-put.ensures in
    search rules

pub put_items-returns-in_err-put_inside-2 : goal.put_items-returns-in_err-put_inside-2
put_items-returns-in_err-put_inside-2 g t c =
    let (bytes, prints, refused) = c.in_err-put_inside-2.ensures in
    let i = c.loop-item.item-index in
    let item = c.item-item.result in
    let after = drop (i + 1) c.in-Some.others.now in
    let left : drop i c.in-Some.others.now ≡ item ∷ after =
    drop_more c.in-Some.others.now i item c.loop-item-test.true ∙ ap (λ v. v ∷ after) (sym c.item-item.is) in
    let (rest, more) = some_items (codes ", ") (items_layout after) in
    let bad = leads_broke g.S.Sink.takes g.S.Sink.fails g.met.S.Sink.failed_later g.met.S.Sink.failed_early (codes ", " ++ bytes) rest
    c.loop-item.invariant (next_leads _ after item bytes left prints rest more)
    (g.met.S.Sink.failed_later _ (codes ", ") _ bytes _ c.in_ok-put.ensures refused) in
    search rules

pub put_pairs-loop-key-preserved : goal.put_pairs-loop-key-preserved
put_pairs-loop-key-preserved g t c =
    let (before, within) = c.loop-key.invariant in
    let (bytes, prints, put) = c.in_ok-put_pair-2.ensures in
    let p : KeyForm × Form = (key_form c.in-Some-2.key.now, c.in-Some-2.value.now) in
    let left = c.loop-key.key-iterator in
    let others = c.next-in-loop-key.new.self in
    let less_deep = first_depth left others p c.in-Some-2.ensures.steps in (
      leads_more g.S.Sink.takes g.met.S.Sink.joined (codes ", " ++ bytes) before
          (next_pair_leads left others p bytes c.in-Some-2.ensures.steps prints)
          (g.met.S.Sink.joined _ (codes ", ") _ bytes _ c.in_ok-put.ensures put),
      omega (arith, less_deep.1, within),
    )

pub put_pairs-returns : goal.put_pairs-returns
put_pairs-returns g t c =
    let none : c.loop-key.key-iterator ≡ [] = search rules in
    leads_done g.S.Sink.takes c.loop-key.invariant.0 (subst (λ l. PrintsLaterPairs l []) (sym none) refl)

pub put_pairs-returns-in_err-put_pair : goal.put_pairs-returns-in_err-put_pair
put_pairs-returns-in_err-put_pair g t c =
    let (bytes, prints, refused) = c.in_err-put_pair.ensures in
    let p : KeyForm × Form = (key_form c.in-Some.first.now, c.in-Some.value.now) in
    let all = c.args.map.now in
    let others = c.next.new.self in
    let (rest, more) = some_pairs (codes ", ") (pairs_layout others) in
    let failed = g.met.S.Sink.failed_early _ bytes _ rest refused in
    let bad = failed_of g.S.Sink.fails (PrintsPairs all) _ _ _
    (first_pair_leads all others p bytes (sym c.iter-pairs.ensures.pairs ∙ c.in-Some.ensures.steps) prints rest more) failed in
    search rules

pub put_pairs-returns-in_err-put : goal.put_pairs-returns-in_err-put
put_pairs-returns-in_err-put g t c =
    let (before, within) = c.loop-key.invariant in
    let p : KeyForm × Form = (key_form c.in-Some-2.key.now, c.in-Some-2.value.now) in
    let left = c.loop-key.key-iterator in
    let others = c.next-in-loop-key.new.self in
    let (rest, more) = some_pairs (codes ", ") (pairs_layout others) in
    let value = layout p.1 in
    let pair = printed_key (key_meaning p.0) ++ codes ": " ++ printed_with quoted value in
    let bad = leads_broke g.S.Sink.takes g.S.Sink.fails g.met.S.Sink.failed_later g.met.S.Sink.failed_early (codes ", ") (pair ++ rest) before
    (next_pair_leads left others p pair c.in-Some-2.ensures.steps (_, _, key_prints (key_meaning p.0), inside_prints value, refl) rest more)
    c.in_err-put.ensures in
    search rules

pub put_pairs-returns-in_err-put_pair-2 : goal.put_pairs-returns-in_err-put_pair-2
put_pairs-returns-in_err-put_pair-2 g t c =
    let (before, within) = c.loop-key.invariant in
    let (bytes, prints, refused) = c.in_err-put_pair-2.ensures in
    let p : KeyForm × Form = (key_form c.in-Some-2.key.now, c.in-Some-2.value.now) in
    let left = c.loop-key.key-iterator in
    let others = c.next-in-loop-key.new.self in
    let (rest, more) = some_pairs (codes ", ") (pairs_layout others) in
    let bad = leads_broke g.S.Sink.takes g.S.Sink.fails g.met.S.Sink.failed_later g.met.S.Sink.failed_early (codes ", " ++ bytes) rest before
    (next_pair_leads left others p bytes c.in-Some-2.ensures.steps prints rest more)
    (g.met.S.Sink.failed_later _ (codes ", ") _ bytes _ c.in_ok-put.ensures refused) in
    search rules
