use Rattle.std.proofs.Common.{rules, refl, ◌≡◌, ◌+◌, ◌∷◌, ◌++◌, [], sym, ap, subst, ◌∙◌, arith, drop, codes, append_assoc}
use Rattle.std.proofs.lemmas.List.{drop_more, drop_all}
use Rattle.tera_meaning.specs.Form.{Form}
use Rattle.tera_meaning.specs.KeyMeaning.{KeyForm}
use Rattle.tera_meaning.specs.Tree.{depth, items, members, items_depth}
use Rattle.tera_report.specs.Sink.{PutsThese}
use Rattle.tera_report.proofs.PutLaws.{puts_after, more_so_far, all_so_far, broke_so_far}
use Rattle.tera_values.specs.Key.{key_form}
use Rattle.tera_values.proofs.PartsLaws.{depth_at, first_depth, array_of_items, map_of_members}
use Rattle.tera_script.specs.Written.{literal_of, items_literal, more_literal, pairs_literal, more_pairs_literal, key_literal}
use Rattle.tera_script.proofs.WrittenParts.{first_item, next_item, first_pair, next_pair, pair_literal}
use Rattle.tera_script.proofs.write.+write.Goals as goal

pub put_array-returns-in_err-put : goal.put_array-returns-in_err-put
put_array-returns-in_err-put g t c =
    let bad = g.met.S.Sink.failed_early _ (codes "[") _ (items_literal c.args.ascii (items c.args.all.now) ++ codes "]") c.in_err-put.ensures in
    search rules

pub put_array-returns-in_err-put_items : goal.put_array-returns-in_err-put_items
put_array-returns-in_err-put_items g t c =
    let inner = items_literal c.args.ascii (items c.args.all.now) in
    let bad = g.met.S.Sink.failed_early _ (codes "[" ++ inner) _ (codes "]")
    (g.met.S.Sink.failed_later _ (codes "[") _ inner _ c.in_ok-put.ensures c.in_err-put_items.ensures) in
    search rules

pub put_array-returns : goal.put_array-returns
put_array-returns g t c =
    let inner = items_literal c.args.ascii (items c.args.all.now) in
    let first = g.met.S.Sink.joined _ (codes "[") _ inner _ c.in_ok-put.ensures c.in_ok-put_items.ensures in
    puts_after g.S.Sink.takes g.S.Sink.fails g.met.S.Sink.joined g.met.S.Sink.failed_later c.put-2.result
    (codes "[" ++ inner) (codes "]") _ _ _ _ refl first c.put-2.ensures

pub put_items-put_literal-requires-in-loop-item : goal.put_items-put_literal-requires-in-loop-item
put_items-put_literal-requires-in-loop-item g t c κs within =
    let all = ap (λ xs. items_depth (items xs)) c.in-Some.ensures.cases.0 in
    let less_deep = depth_at c.in-Some.others.now c.loop-item.item-index c.item-item.result c.loop-item-test.true c.item-item.is in
    (omega (arith, less_deep, all), within)

pub put_items-loop-item-init : goal.put_items-loop-item-init
put_items-loop-item-init g t c = record {
  done = literal_of c.args.ascii c.in-Some.first.now;
  split = first_item c.args.ascii c.args.all.now c.in-Some.others.now c.in-Some.first.now c.in-Some.ensures.cases.0;
  took = c.in_ok-put_literal.ensures;
}

pub put_items-loop-item-preserved : goal.put_items-loop-item-preserved
put_items-loop-item-preserved g t c =
    let i = c.loop-item.item-index in
    let item = c.item-item.result in
    let others = drop (i + 1) c.in-Some.others.now in
    let left : drop i c.in-Some.others.now ≡ item ∷ others =
    drop_more c.in-Some.others.now i item c.loop-item-test.true ∙ ap (λ v. v ∷ others) (sym c.item-item.is) in
    more_so_far g.S.Sink.takes g.met.S.Sink.joined (codes ", " ++ literal_of c.args.ascii item) (more_literal c.args.ascii (items others)) c.loop-item.invariant
    (next_item c.args.ascii _ others item left)
    (g.met.S.Sink.joined _ (codes ", ") _ (literal_of c.args.ascii item) _ c.in_ok-put.ensures c.in_ok-put_literal-2.ensures)

pub put_items-returns : goal.put_items-returns
put_items-returns g t c =
    let none = drop_all c.loop-item.item-index c.in-Some.others.now c.loop-item-test.false in
    all_so_far g.S.Sink.takes c.loop-item.invariant (ap (λ l. more_literal c.args.ascii (items l)) none)

pub put_items-returns-in_err-put_literal : goal.put_items-returns-in_err-put_literal
put_items-returns-in_err-put_literal g t c =
    let first = c.in-Some.first.now in
    let others = c.in-Some.others.now in
    let is = first_item c.args.ascii c.args.all.now others first c.in-Some.ensures.cases.0 in
    let bad = subst (λ l. g.S.Sink.fails c.args.out.now l c.put_literal.new.out) is
    (g.met.S.Sink.failed_early _ (literal_of c.args.ascii first) _ (more_literal c.args.ascii (items others)) c.in_err-put_literal.ensures) in
    search rules

pub put_items-returns-in_err-put : goal.put_items-returns-in_err-put
put_items-returns-in_err-put g t c =
    let i = c.loop-item.item-index in
    let item = c.item-item.result in
    let others = drop (i + 1) c.in-Some.others.now in
    let left : drop i c.in-Some.others.now ≡ item ∷ others =
    drop_more c.in-Some.others.now i item c.loop-item-test.true ∙ ap (λ v. v ∷ others) (sym c.item-item.is) in
    let bad = broke_so_far g.S.Sink.takes g.S.Sink.fails g.met.S.Sink.failed_early g.met.S.Sink.failed_later (codes ", ")
    (literal_of c.args.ascii item ++ more_literal c.args.ascii (items others)) c.loop-item.invariant
    (next_item c.args.ascii _ others item left) c.in_err-put.ensures in
    search rules

pub put_items-returns-in_err-put_literal-2 : goal.put_items-returns-in_err-put_literal-2
put_items-returns-in_err-put_literal-2 g t c =
    let i = c.loop-item.item-index in
    let item = c.item-item.result in
    let others = drop (i + 1) c.in-Some.others.now in
    let left : drop i c.in-Some.others.now ≡ item ∷ others =
    drop_more c.in-Some.others.now i item c.loop-item-test.true ∙ ap (λ v. v ∷ others) (sym c.item-item.is) in
    let bad = broke_so_far g.S.Sink.takes g.S.Sink.fails g.met.S.Sink.failed_early g.met.S.Sink.failed_later (codes ", " ++ literal_of c.args.ascii item)
    (more_literal c.args.ascii (items others)) c.loop-item.invariant (next_item c.args.ascii _ others item left)
    (g.met.S.Sink.failed_later _ (codes ", ") _ (literal_of c.args.ascii item) _ c.in_ok-put.ensures c.in_err-put_literal-2.ensures) in
    search rules

pub put_other-put_array-requires : goal.put_other-put_array-requires
put_other-put_array-requires g t c κs within =
    let deep = ap depth (array_of_items c.args.value.now c.in-Some.items.now c.in-Some.ensures) in
    (omega (arith, deep), within)

pub put_other-returns-in-Some : goal.put_other-returns-in-Some
put_other-returns-in-Some g t c =
    subst (λ v. PutsThese g.S.Sink.takes g.S.Sink.fails c.put_array.result (literal_of c.args.ascii v) c.args.out.now c.put_array.new.out)
    (array_of_items c.args.value.now c.in-Some.items.now c.in-Some.ensures) c.put_array.ensures

pub put_other-put_map-requires : goal.put_other-put_map-requires
put_other-put_map-requires g t c κs within =
    let deep = ap depth (map_of_members c.args.value.now c.in-Some-as_map.pairs.now c.in-Some-as_map.ensures) in
    (omega (arith, deep), within)

pub put_other-returns-in-Some-as_map : goal.put_other-returns-in-Some-as_map
put_other-returns-in-Some-as_map g t c =
    subst (λ v. PutsThese g.S.Sink.takes g.S.Sink.fails c.put_map.result (literal_of c.args.ascii v) c.args.out.now c.put_map.new.out)
    (map_of_members c.args.value.now c.in-Some-as_map.pairs.now c.in-Some-as_map.ensures) c.put_map.ensures

pub put_map-returns-in_err-put : goal.put_map-returns-in_err-put
put_map-returns-in_err-put g t c =
    let bad = g.met.S.Sink.failed_early _ (codes "{") _ (pairs_literal c.args.ascii (members c.args.map.now) ++ codes "}") c.in_err-put.ensures in
    search rules

pub put_map-returns-in_err-put_pairs : goal.put_map-returns-in_err-put_pairs
put_map-returns-in_err-put_pairs g t c =
    let inner = pairs_literal c.args.ascii (members c.args.map.now) in
    let bad = g.met.S.Sink.failed_early _ (codes "{" ++ inner) _ (codes "}")
    (g.met.S.Sink.failed_later _ (codes "{") _ inner _ c.in_ok-put.ensures c.in_err-put_pairs.ensures) in
    search rules

pub put_map-returns : goal.put_map-returns
put_map-returns g t c =
    let inner = pairs_literal c.args.ascii (members c.args.map.now) in
    let first = g.met.S.Sink.joined _ (codes "{") _ inner _ c.in_ok-put.ensures c.in_ok-put_pairs.ensures in
    puts_after g.S.Sink.takes g.S.Sink.fails g.met.S.Sink.joined g.met.S.Sink.failed_later c.put-2.result
    (codes "{" ++ inner) (codes "}") _ _ _ _ refl first c.put-2.ensures

pub put_pair-returns-in_err-put : goal.put_pair-returns-in_err-put
put_pair-returns-in_err-put g t c =
    let key = key_literal c.args.ascii (key_form c.args.key.now) in
    let value = literal_of c.args.ascii c.args.value.now in
    let bad = subst (λ l. g.S.Sink.fails c.args.out.now l c.put.new.self) (append_assoc key (codes ": ") value)
    (g.met.S.Sink.failed_early _ (key ++ codes ": ") _ value
    (g.met.S.Sink.failed_later _ key _ (codes ": ") _ c.in_ok-put_key.ensures c.in_err-put.ensures)) in
    search rules

pub put_pair-returns : goal.put_pair-returns
put_pair-returns g t c =
    let key = key_literal c.args.ascii (key_form c.args.key.now) in
    let value = literal_of c.args.ascii c.args.value.now in
    let first = g.met.S.Sink.joined _ key _ (codes ": ") _ c.in_ok-put_key.ensures c.in_ok-put.ensures in
    puts_after g.S.Sink.takes g.S.Sink.fails g.met.S.Sink.joined g.met.S.Sink.failed_later c.put_literal.result
    (key ++ codes ": ") value _ _ _ _ (append_assoc key (codes ": ") value) first c.put_literal.ensures

pub put_pairs-loop-key-init : goal.put_pairs-loop-key-init
put_pairs-loop-key-init g t c =
    let p : KeyForm × Form = (key_form c.in-Some.first.now, c.in-Some.value.now) in
    let others = c.into_iter-key-iterator.result in
    let same : others ≡ c.next.new.self = search rules in
    let is : c.args.map.now ≡ p ∷ others = sym c.iter-pairs.ensures.pairs ∙ c.in-Some.ensures.steps ∙ ap (λ l. p ∷ l) (sym same) in (
      record {
        done = pair_literal c.args.ascii p;
        split = first_pair c.args.ascii c.args.map.now others p is;
        took = c.in_ok-put_pair.ensures;
      },
      (first_depth c.args.map.now others p is).1,
    )

pub put_pairs-loop-key-preserved : goal.put_pairs-loop-key-preserved
put_pairs-loop-key-preserved g t c =
    let (before, within) = c.loop-key.invariant in
    let p : KeyForm × Form = (key_form c.in-Some-2.key.now, c.in-Some-2.value.now) in
    let left = c.loop-key.key-iterator in
    let others = c.next-in-loop-key.new.self in
    let less_deep = first_depth left others p c.in-Some-2.ensures.steps in (
      more_so_far g.S.Sink.takes g.met.S.Sink.joined (codes ", " ++ pair_literal c.args.ascii p) (more_pairs_literal c.args.ascii (members others)) before
          (next_pair c.args.ascii left others p c.in-Some-2.ensures.steps)
          (g.met.S.Sink.joined _ (codes ", ") _ (pair_literal c.args.ascii p) _ c.in_ok-put.ensures c.in_ok-put_pair-2.ensures),
      omega (arith, less_deep.1, within),
    )

pub put_pairs-returns : goal.put_pairs-returns
put_pairs-returns g t c =
    let none : c.loop-key.key-iterator ≡ [] = search rules in
    all_so_far g.S.Sink.takes c.loop-key.invariant.0 (ap (λ l. more_pairs_literal c.args.ascii (members l)) none)

pub put_pairs-returns-in_err-put_pair : goal.put_pairs-returns-in_err-put_pair
put_pairs-returns-in_err-put_pair g t c =
    let p : KeyForm × Form = (key_form c.in-Some.first.now, c.in-Some.value.now) in
    let others = c.next.new.self in
    let is = sym c.iter-pairs.ensures.pairs ∙ c.in-Some.ensures.steps in
    let bad = subst (λ l. g.S.Sink.fails c.args.out.now l c.put_pair.new.out) (first_pair c.args.ascii c.args.map.now others p is)
    (g.met.S.Sink.failed_early _ (pair_literal c.args.ascii p) _ (more_pairs_literal c.args.ascii (members others)) c.in_err-put_pair.ensures) in
    search rules

pub put_pairs-returns-in_err-put : goal.put_pairs-returns-in_err-put
put_pairs-returns-in_err-put g t c =
    let (before, within) = c.loop-key.invariant in
    let p : KeyForm × Form = (key_form c.in-Some-2.key.now, c.in-Some-2.value.now) in
    let left = c.loop-key.key-iterator in
    let others = c.next-in-loop-key.new.self in
    let bad = broke_so_far g.S.Sink.takes g.S.Sink.fails g.met.S.Sink.failed_early g.met.S.Sink.failed_later (codes ", ")
    (pair_literal c.args.ascii p ++ more_pairs_literal c.args.ascii (members others)) before
    (next_pair c.args.ascii left others p c.in-Some-2.ensures.steps) c.in_err-put.ensures in
    search rules

pub put_pairs-returns-in_err-put_pair-2 : goal.put_pairs-returns-in_err-put_pair-2
put_pairs-returns-in_err-put_pair-2 g t c =
    let (before, within) = c.loop-key.invariant in
    let p : KeyForm × Form = (key_form c.in-Some-2.key.now, c.in-Some-2.value.now) in
    let left = c.loop-key.key-iterator in
    let others = c.next-in-loop-key.new.self in
    let bad = broke_so_far g.S.Sink.takes g.S.Sink.fails g.met.S.Sink.failed_early g.met.S.Sink.failed_later (codes ", " ++ pair_literal c.args.ascii p)
    (more_pairs_literal c.args.ascii (members others)) before (next_pair c.args.ascii left others p c.in-Some-2.ensures.steps)
    (g.met.S.Sink.failed_later _ (codes ", ") _ (pair_literal c.args.ascii p) _ c.in_ok-put.ensures c.in_err-put_pair-2.ensures) in
    search rules
