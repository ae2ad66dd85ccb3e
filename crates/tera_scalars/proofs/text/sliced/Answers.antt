use Rattle.std.proofs.Common.{◌≡◌, ◌⊎◌, ◌-◌, ◌∙◌, ap, arith, inl, inr, length, rules, sym}
use Rattle.std.specs.Str.{encode_utf8_all}
use Rattle.tera_scalars.proofs.TextLemmas.{none_walked, walks_behind, walks_none}
use Rattle.tera_scalars.proofs.text.sliced.Goals as goal
use Rattle.tera_scalars.proofs.text.sliced.Goals.{then-is_empty-via-then-is_empty, then-is_empty-via-else-is_empty+then-count-eq0}

pub returns-then-is_empty-clause-ok : goal.returns-then-is_empty-clause-ok
returns-then-is_empty-clause-ok c =
    let ended : (c.saturating_sub-count.result ≡ 0) ⊎ (length c.behind-rest.result.now ≡ 0) = elim c.then-is_empty.branch [
      | then-is_empty-via-then-is_empty w ↦ inr (search rules)
      | then-is_empty-via-else-is_empty+then-count-eq0 w ↦ inl (omega (arith, w.if-count-eq0.true))
    ] in
    let same = walks_behind (c.args.stride.by - 1) _ _ _ _ _ c.saturating_sub-count.ensures c.behind-rest.ensures in
    c.new.ensures.bytes ∙ ap encode_utf8_all (sym (walks_none (c.args.stride.by - 1) _ c.args.backwards _ ended) ∙ same)

pub returns-clause-ok : goal.returns-clause-ok
returns-clause-ok c =
    let same = walks_behind (c.args.stride.by - 1) _ _ _ _ _ c.saturating_sub-count.ensures c.behind-rest.ensures in
    rw (← same) c.taken.ensures

pub returns-clause-succeeds : goal.returns-clause-succeeds
returns-clause-succeeds c = λ none.
    let same = walks_behind (c.args.stride.by - 1) _ _ _ _ _ c.saturating_sub-count.ensures c.behind-rest.ensures in
    elim (none_walked (c.args.stride.by - 1) _ c.args.backwards _ c.behind-rest.utf8 (same ∙ none)) [
      | inl ended ↦ absurd (omega (arith, ended, c.if-count-eq0.false))
      | inr ended ↦ search rules
    ]
