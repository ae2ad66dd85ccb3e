use Rattle.std.proofs.Common.{◌≡◌, ◌⊎◌, ◌++◌, ◌-◌, ◌+◌, suc, [], List, ℕ, take, arith, inl, inr, sym, ap, ap₂, subst, ◌∙◌}
use Rattle.std.proofs.lemmas.Str.{IsUtf8-append, IsUtf8-nil}
use Rattle.std.specs.{Str.IsUtf8, Str.encode_utf8_all, Str.Iter.chars_rest}
use Rattle.tera_meaning.specs.Slice.{walked}
use Rattle.tera_scalars.specs.inner.Ends.{chars_from}
use Rattle.tera_scalars.proofs.TextLemmas.{passes, takes, all_put}
use Rattle.tera_scalars.proofs.text.strided.Goals as goal
use Rattle.tera_scalars.proofs.text.strided.Goals.{then-waits-gt0, else-waits-gt0+in_ok-put_bytes, else-loop-turn-test, then-loop-turn-test+in_default}

pub loop-turn-init : goal.loop-turn-init
loop-turn-init c =
    let spelled = λ (n : ℕ) (bs : List ℕ). encode_utf8_all (walked (c.args.by - 1) 0 (take n (chars_from c.args.backwards bs))) in
    let all : c.args.count - 0 ≡ c.args.count = omega arith in record {
      text = subst IsUtf8 (sym c.in_ok-made.ensures.items) IsUtf8-nil;
      so_far = ap (λ (bs : List ℕ). bs ++ spelled (c.args.count - 0) (chars_rest c.chars-rest.result)) c.in_ok-made.ensures.items
          ∙ ap₂ spelled all c.chars-rest.ensures.rest;
    }

pub loop-turn-preserved : goal.loop-turn-preserved
loop-turn-preserved c =
    let (text, next, is, off) = c.in-Some.ensures in
    let before = c.loop-turn.invariant in
    let p = c.args.by - 1 in
    let n = c.args.count - c.loop-turn.turn in
    let m = c.args.count - (c.loop-turn.turn + 1) in
    let less : n ≡ suc m = omega arith in
    elim c.if-waits-gt0.branch [
      | then-waits-gt0 w ↦
          let one : c.loop-turn.waits ≡ suc c.if-waits-gt0.waits = omega (arith, w.waits-is) in
          rw w.made-is (record { text = before.text; so_far = passes p n m next _ _ _ _ off less _ _ one before.so_far })
      | else-waits-gt0+in_ok-put_bytes w ↦
          let put = ap (λ v. v.items) w.made-is ∙ w.in_ok-put_bytes.ensures.items in
          rw w.waits-is (record {
            text = subst IsUtf8 (sym put) (IsUtf8-append _ _ before.text text);
            so_far = takes p n m next _ _ _ _ off less _ _ (omega arith) (put ∙ ap (λ (bs : List ℕ). c.loop-turn.made.items ++ bs) is) before.so_far;
          })
    ]

pub from_utf8_unchecked-requires : goal.from_utf8_unchecked-requires
from_utf8_unchecked-requires c = c.loop-turn.invariant.text

pub returns : goal.returns
returns c =
    let ended : (c.args.count - c.loop-turn.turn ≡ 0) ⊎ (chars_from c.args.backwards (chars_rest c.loop-turn.rest) ≡ []) = elim c.loop-turn-test.branch [
      | else-loop-turn-test w ↦ inl (omega arith)
      | then-loop-turn-test+in_default w ↦ inr w.in_default.ensures.0
    ]
    in
    ap (λ v. v.items) c.from_utf8_unchecked.ensures.value ∙ all_put _ _ _ _ _ _ ended c.loop-turn.invariant.so_far
