use Rattle.std.proofs.Common.{◌≡◌, ◌∷◌, ◌++◌, [], ◌-◌, sym, ◌∙◌, subst, arith, OnOk, IfErr}
use Rattle.std.proofs.lemmas.Bool.{ne_eqb}
use Rattle.std.proofs.lemmas.Result.{on_ok_weaker}
use Rattle.json.specs.Tree.{json_tokens}
use Rattle.tera_json.specs.Misfits.{here, under, same_key}
use Rattle.tera_json.specs.Places.{name_step}
use Rattle.tera_json.specs.Written.{document_of, value_misfits, pairs_misfits, name_of}
use Rattle.tera_json.specs.inner.Stopped.{IsDue}
use Rattle.tera_json.proofs.Stops.{due_of_more}
use Rattle.tera_json.proofs.Writing.{item_unwritten, left_value, key_clash, no_key_clash, text_found, some_level}
use Rattle.tera_meaning.proofs.TreeLaws.{list_of_members}
use Rattle.tera_meaning.specs.Tree.{members}
use Rattle.tera_values.proofs.PartsLaws.{array_of_items, map_of_members}
use Rattle.tera_values.specs.Key.{key_form}
use Rattle.tera_json.proofs.write.+put_value.Goals as goal

pub put_items-returns-in-Err-clause-err : goal.put_items-returns-in-Err-clause-err
put_items-returns-in-Err-clause-err t c =
    item_unwritten c.in_item.result c.loop-at.invariant.0 (left_value c.args.all.now c.loop-at.at c.index-all-at.result c.loop-at-test.true c.index-all-at.is)
    (c.in_item.ensures _ c.in-Err.ensures.err)

pub put_member-returns-then-is_some-clause-err : goal.put_member-returns-then-is_some-clause-err
put_member-returns-then-is_some-clause-err t c =
    let k = key_form c.args.key.now in
    let s = c.in_member.result in
    let name = c.as_str-name.ensures.value ∙ c.in_ok-made.ensures in
    let has = text_found c.args.all.now (name_of k) _ c.get.result name c.get.ensures ∙ sym c.if-is_some.ensures in
    let due = subst (λ w. IsDue (under (name_step w) (here same_key ∷ [])) s) name (c.in_member.ensures (here same_key ∷ []) c.here.ensures) in
    due_of_more _ _ s (subst (λ ms. IsDue ms s) (sym (key_clash c.args.all.now k c.in_default.ensures has)) due)

pub put_member-returns-clause-fits : goal.put_member-returns-clause-fits
put_member-returns-clause-fits t c =
    let k = key_form c.args.key.now in
    let name = c.as_str-name.ensures.value ∙ c.in_ok-made.ensures in
    let has = text_found c.args.all.now (name_of k) _ c.get.result name c.get.ensures ∙ sym c.if-is_some.ensures in
    let none = no_key_clash c.args.all.now k c.in_default.ensures has in
    on_ok_weaker c.put_named-2.result (λ fits. (none, fits)) c.put_named-2.ensures.fits

pub put_member-returns-clause-err : goal.put_member-returns-clause-err
put_member-returns-clause-err t c =
    let k = key_form c.args.key.now in
    let r = c.put_named-2.result in
    let inside = value_misfits c.args.lacking c.args.levels c.args.value.now in
    let name = c.as_str-name.ensures.value ∙ c.in_ok-made.ensures in
    let has = text_found c.args.all.now (name_of k) _ c.get.result name c.get.ensures ∙ sym c.if-is_some.ensures in
    let none = no_key_clash c.args.all.now k c.in_default.ensures has in
    subst (λ ms. IfErr r (IsDue (ms ++ under (name_step (name_of k)) inside))) (sym none)
    (subst (λ w. IfErr r (IsDue (under (name_step w) inside))) name c.put_named-2.ensures.err)

pub put_named-returns-in-Err-clause-err : goal.put_named-returns-in-Err-clause-err
put_named-returns-in-Err-clause-err t c = c.in_member.ensures _ c.in-Err.ensures.err

pub put_value-returns-else-levels-eq0-clause-ok : goal.put_value-returns-else-levels-eq0-clause-ok
put_value-returns-else-levels-eq0-clause-ok t c =
    let is = array_of_items c.args.value.now c.in-Some.all.now c.in-Some.ensures in
    subst (λ v. OnOk c.put_items.result (c.put_items.new.out.tokens ≡ c.args.out.now.tokens ++ json_tokens (document_of v))) is c.put_items.ensures.ok

pub put_value-returns-else-levels-eq0-clause-fits : goal.put_value-returns-else-levels-eq0-clause-fits
put_value-returns-else-levels-eq0-clause-fits t c =
    let is = array_of_items c.args.value.now c.in-Some.all.now c.in-Some.ensures in
    let some = ne_eqb c.args.levels 0 (λ z. omega (arith, z, c.if-levels-eq0.false)) in
    subst (λ v. OnOk c.put_items.result (value_misfits c.args.lacking c.args.levels v ≡ [])) is
    (some_level (λ ms. OnOk c.put_items.result (ms ≡ [])) c.args.levels _ some c.put_items.ensures.fits)

pub put_value-returns-else-levels-eq0-clause-err : goal.put_value-returns-else-levels-eq0-clause-err
put_value-returns-else-levels-eq0-clause-err t c =
    let is = array_of_items c.args.value.now c.in-Some.all.now c.in-Some.ensures in
    let some = ne_eqb c.args.levels 0 (λ z. omega (arith, z, c.if-levels-eq0.false)) in
    subst (λ v. IfErr c.put_items.result (IsDue (value_misfits c.args.lacking c.args.levels v))) is
    (some_level (λ ms. IfErr c.put_items.result (IsDue ms)) c.args.levels _ some c.put_items.ensures.err)

pub put_value-returns-else-levels-eq0-2-clause-ok : goal.put_value-returns-else-levels-eq0-2-clause-ok
put_value-returns-else-levels-eq0-2-clause-ok t c =
    let is = map_of_members c.args.value.now c.in-Some-as_map.all.now c.in-Some-as_map.ensures in
    subst (λ v. OnOk c.put_members.result (c.put_members.new.out.tokens ≡ c.args.out.now.tokens ++ json_tokens (document_of v))) is c.put_members.ensures.ok

pub put_value-returns-else-levels-eq0-2-clause-fits : goal.put_value-returns-else-levels-eq0-2-clause-fits
put_value-returns-else-levels-eq0-2-clause-fits t c =
    let all = c.in-Some-as_map.all.now in
    let is = map_of_members c.args.value.now all c.in-Some-as_map.ensures in
    let some = ne_eqb c.args.levels 0 (λ z. omega (arith, z, c.if-levels-eq0-2.false)) in
    let fits = subst (λ ps. OnOk c.put_members.result (pairs_misfits c.args.lacking (c.args.levels - 1) ps (members all) ≡ [])) (sym (list_of_members all))
    c.put_members.ensures.fits in
    subst (λ v. OnOk c.put_members.result (value_misfits c.args.lacking c.args.levels v ≡ [])) is
    (some_level (λ ms. OnOk c.put_members.result (ms ≡ [])) c.args.levels _ some fits)

pub put_value-returns-else-levels-eq0-2-clause-err : goal.put_value-returns-else-levels-eq0-2-clause-err
put_value-returns-else-levels-eq0-2-clause-err t c =
    let all = c.in-Some-as_map.all.now in
    let is = map_of_members c.args.value.now all c.in-Some-as_map.ensures in
    let some = ne_eqb c.args.levels 0 (λ z. omega (arith, z, c.if-levels-eq0-2.false)) in
    let due = subst (λ ps. IfErr c.put_members.result (IsDue (pairs_misfits c.args.lacking (c.args.levels - 1) ps (members all)))) (sym (list_of_members all))
    c.put_members.ensures.err in
    subst (λ v. IfErr c.put_members.result (IsDue (value_misfits c.args.lacking c.args.levels v))) is
    (some_level (λ ms. IfErr c.put_members.result (IsDue ms)) c.args.levels _ some due)
