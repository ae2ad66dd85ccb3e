use Rattle.std.proofs.Common.{[], ◌≡◌, refl, sym, ap, subst, ◌∙◌, drop, arith}
use Rattle.std.proofs.lemmas.List.{drop_all, drop-drop}
use Rattle.std.specs.{Str.IsAscii, Str.Iter.chars_rest}
use Rattle.tera_scalars.specs.inner.Ends.{chars_from}
use Rattle.tera_scalars.proofs.TextLemmas.{no_chars, chars_le_bytes, ascii_near, none_left}
use Rattle.tera_scalars.proofs.text.behind.Goals as goal
use Rattle.tera_scalars.proofs.text.behind.Goals.{else-loop-turn-test, then-loop-turn-test+in_default}

pub returns-then-text-count : goal.returns-then-text-count
returns-then-text-count c =
    no_chars c.args.backwards [] refl ∙ sym (drop_all c.args.count _ (omega (arith, chars_le_bytes c.args.backwards c.args.text.now c.utf8.text)))

pub returns-then-is_ascii : goal.returns-then-is_ascii
returns-then-is_ascii c =
    ap (chars_from c.args.backwards) c.behind_ascii.ensures
    ∙ (ascii_near _ c.args.count c.utf8.text (omega arith) c.args.backwards (subst IsAscii c.bytes_near.ensures c.if-is_ascii.ensures.cases)).1

pub loop-turn-preserved : goal.loop-turn-preserved
loop-turn-preserved c =
    let (text, next, is, off) = c.in-Some.ensures in
    ap (drop 1) (sym off ∙ c.loop-turn.invariant) ∙ drop-drop 1 c.loop-turn.turn _

pub returns : goal.returns
returns c =
    let all = chars_from c.args.backwards c.args.text.now in
    elim c.loop-turn-test.branch [
      | else-loop-turn-test w ↦
          let turns : c.loop-turn.turn ≡ c.args.count = omega arith in
          ap (chars_from c.args.backwards) (c.as_str.ensures ∙ ap chars_rest w.rest-is) ∙ c.loop-turn.invariant ∙ ap (λ n. drop n all) turns
      | then-loop-turn-test+in_default w ↦
          let none = w.in_default.ensures.0 in
          ap (chars_from c.args.backwards) (c.as_str.ensures ∙ ap chars_rest (w.rest-is ∙ w.in_default.ensures.1)) ∙ none
          ∙ none_left all c.loop-turn.turn c.args.count (omega arith) (sym none ∙ c.loop-turn.invariant)
    ]
