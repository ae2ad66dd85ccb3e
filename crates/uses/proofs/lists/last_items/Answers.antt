use Rattle.std.proofs.Common.{ap, sym, subst, ◌∙◌, arith, refl, ◌≡◌, ◌-◌, ◌<◌, ℕ, zero, suc, pos, neg_ℤ, List, [], drop, length, None, Some, Result, Ok}
use Rattle.std.proofs.lemmas.List.{drop_all}
use Rattle.std.proofs.lemmas.Result.{IfOk-weaker, IfErr-weaker}
use Rattle.tera.specs.Errors.{Refuses}
use Rattle.tera.specs.Form.{Form}
use Rattle.tera.specs.Refusal.{Refusal}
use Rattle.tera.specs.SliceRule.{IsSliced}
use Rattle.tera.specs.Stretch.{stretch}
use Rattle.tera.specs.Tree.{array, items}
use Rattle.uses.specs.Lists.{IsEnd}
use Rattle.uses.proofs.lists.last_items.Goals as goal

-- the last ones, so many and not none, are those from a start of minus so many on
last_ones : (xs : List Form) (count : ℕ) → 0 < count → stretch xs (Some (neg_ℤ (pos count))) None ≡ drop (length xs - count) xs
last_ones xs zero some = absurd (omega (arith, some))
last_ones xs (suc n) some = refl

no_ones : (xs : List Form) (count : ℕ) → count ≡ 0 → [] ≡ drop (length xs - count) xs
no_ones xs count none = sym (drop_all (length xs - count) xs (omega (arith, none)))

pub returns-then-count-eq0-clause-ok : goal.returns-then-count-eq0-clause-ok
returns-then-count-eq0-clause-ok c xs holds =
    IfOk-weaker c.slice.result (λ v. IsSliced c.args.value.now None (Some (pos 0)) None (Ok v))
    (λ last. last ≡ array (items (drop (length xs - c.args.count) xs)))
    (λ v is.
    let known = c.slices_by_one_are_stretches.ensures.array c.args.value.now xs None (Some (pos 0)) (Ok v) holds is in
    let same : v ≡ array (items []) = cc in
    same ∙ ap (λ (ys : List Form). array (items ys)) (no_ones xs c.args.count (omega (arith, c.if-count-eq0.true))))
    c.slice.ensures.ok

pub returns-else-count-eq0-clause-ok : goal.returns-else-count-eq0-clause-ok
returns-else-count-eq0-clause-ok c xs holds =
    let start = c.bound_below.result in
    IfOk-weaker c.slice-else-count-eq0.result (λ v. IsSliced c.args.value.now start None None (Ok v))
    (λ last. last ≡ array (items (drop (length xs - c.args.count) xs)))
    (λ v is.
    let known = c.slices_by_one_are_stretches.ensures.array c.args.value.now xs start None (Ok v) holds is in
    let same : v ≡ array (items (stretch xs start None)) = cc in
    let below = ap (λ z. stretch xs z None) c.bound_below.ensures in
    same ∙ ap (λ (ys : List Form). array (items ys)) (below ∙ last_ones xs c.args.count (omega (arith, c.if-count-eq0.false))))
    c.slice-else-count-eq0.ensures.ok

-- and they are the slice that is said to be the end
is_end_of : (v : Form) (count : ℕ) (outcome : Result Form Refusal) → 0 < count → IsSliced v (Some (neg_ℤ (pos count))) None None outcome → IsEnd v count outcome
is_end_of v zero outcome some is = absurd (omega (arith, some))
is_end_of v (suc n) outcome some is = is

is_end_of_none : (v : Form) (count : ℕ) (outcome : Result Form Refusal) → count ≡ 0 → IsSliced v None (Some (pos 0)) None outcome → IsEnd v count outcome
is_end_of_none v count outcome none is = subst (λ n. IsEnd v n outcome) (sym none) is

pub returns-then-count-eq0-clause-any : goal.returns-then-count-eq0-clause-any
returns-then-count-eq0-clause-any c =
    IfOk-weaker c.slice.result (λ v. IsSliced c.args.value.now None (Some (pos 0)) None (Ok v)) (λ last. IsEnd c.args.value.now c.args.count (Ok last))
    (λ v is. is_end_of_none c.args.value.now c.args.count (Ok v) (omega (arith, c.if-count-eq0.true)) is) c.slice.ensures.ok

pub returns-then-count-eq0-clause-any_err : goal.returns-then-count-eq0-clause-any_err
returns-then-count-eq0-clause-any_err c =
    IfErr-weaker c.slice.result (λ e. (outcome : Result Form Refusal) × IsSliced c.args.value.now None (Some (pos 0)) None outcome × Refuses outcome e)
    (λ e. (outcome : Result Form Refusal) × IsEnd c.args.value.now c.args.count outcome × Refuses outcome e)
    (λ e h. (h.0, is_end_of_none c.args.value.now c.args.count h.0 (omega (arith, c.if-count-eq0.true)) h.1, h.2)) c.slice.ensures.err

pub returns-else-count-eq0-clause-any : goal.returns-else-count-eq0-clause-any
returns-else-count-eq0-clause-any c =
    IfOk-weaker c.slice-else-count-eq0.result (λ v. IsSliced c.args.value.now c.bound_below.result None None (Ok v))
    (λ last. IsEnd c.args.value.now c.args.count (Ok last))
    (λ v is. is_end_of c.args.value.now c.args.count (Ok v) (omega (arith, c.if-count-eq0.false))
    (subst (λ start. IsSliced c.args.value.now start None None (Ok v)) c.bound_below.ensures is)) c.slice-else-count-eq0.ensures.ok

pub returns-else-count-eq0-clause-any_err : goal.returns-else-count-eq0-clause-any_err
returns-else-count-eq0-clause-any_err c =
    IfErr-weaker c.slice-else-count-eq0.result
    (λ e. (outcome : Result Form Refusal) × IsSliced c.args.value.now c.bound_below.result None None outcome × Refuses outcome e)
    (λ e. (outcome : Result Form Refusal) × IsEnd c.args.value.now c.args.count outcome × Refuses outcome e)
    (λ e h. (
      h.0,
      is_end_of c.args.value.now c.args.count h.0 (omega (arith, c.if-count-eq0.false))
          (subst (λ start. IsSliced c.args.value.now start None None h.0) c.bound_below.ensures h.1),
      h.2,
    )) c.slice-else-count-eq0.ensures.err
