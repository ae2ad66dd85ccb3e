use Rattle.std.proofs.Common.{◌≡◌, ap, sym, subst, ◌∙◌, drop, arith}
use Rattle.std.proofs.lemmas.List.{drop-drop, nil_from_length}
use Rattle.std.proofs.lemmas.Str.{IsUtf8-past_char, chars-nil, chars_past_char}
use Rattle.std.specs.Str.{IsUtf8, chars}
use Rattle.std.specs.Str.Iter.{chars_rest}
use Rattle.tera_filters.proofs.Cut.{still_none}
use Rattle.tera_filters.proofs.parts.behind.Goals as goal
use Rattle.tera_filters.proofs.parts.behind.Goals.{else-loop-turn-test, then-loop-turn-test+in_default}

pub loop-turn-init : goal.loop-turn-init
loop-turn-init c = (subst IsUtf8 (sym c.chars-rest.ensures.rest) c.utf8.text, ap chars c.chars-rest.ensures.rest)

pub loop-turn-preserved : goal.loop-turn-preserved
loop-turn-preserved c =
    let (utf8, behind) = c.loop-turn.invariant in
    let off = c.in-Some.ensures.steps.0 in (
      IsUtf8-past_char _ _ c.in-Some.field-0 utf8 off,
      ap (drop 1) (sym (chars_past_char _ _ c.in-Some.field-0 utf8 off) ∙ behind) ∙ drop-drop 1 c.loop-turn.turn _,
    )

pub returns : goal.returns
returns c =
    let all = chars c.args.text.now in
    let behind = c.loop-turn.invariant.1 in
    elim c.loop-turn-test.branch [
      | else-loop-turn-test w ↦
          let turns : c.loop-turn.turn ≡ c.args.count = omega arith in
          ap chars (c.as_str.ensures ∙ ap chars_rest w.rest-is) ∙ behind ∙ ap (λ n. drop n all) turns
      | then-loop-turn-test+in_default w ↦
          let (empty, same) = w.in_default.ensures.steps.0 in
          let none = ap chars (nil_from_length _ empty) ∙ chars-nil in
          ap chars (c.as_str.ensures ∙ ap chars_rest (w.rest-is ∙ same))
          ∙ still_none all _ c.loop-turn.turn c.args.count (omega arith) none behind
    ]
