-- What stands at the end of the line decides.
use Rattle.std.proofs.Common.{◌≡◌, ◌≢◌, ◌-◌, ℕ, suc, zero, Bool, List, [], ◌∷◌, length, get_or, take, cond, sym, ap, refl, arith, eq-eqb}
use Rattle.std.proofs.lemmas.Bool.{ne_eqb}
use Rattle.tera_replies.specs.Script.{without_return, carriage_return}
use Rattle.tera_cli.proofs.lines.trimmed.Goals as goal
use Rattle.tera_cli.proofs.lines.trimmed.Goals.{else-len-gt0-via-then-len-gt0+else-line-len-eq13, else-len-gt0-via-else-len-gt0}

-- a carriage return at the end is dropped
dropped : (xs : List ℕ) (n : ℕ) → length xs ≡ suc n → get_or xs n 0 ≡ carriage_return → take n xs ≡ without_return xs
dropped (b ∷ []) zero e h = ap (λ (t : Bool). cond t [] (b ∷ [])) (sym (eq-eqb b carriage_return h))
dropped (b ∷ c ∷ bs) (suc n) e h = ap (λ (ys : List ℕ). b ∷ ys) (dropped (c ∷ bs) n (omega arith) h)
dropped xs n e h = absurd (omega arith)

-- any other line stays as it is
kept : (xs : List ℕ) (n : ℕ) → length xs ≡ suc n → get_or xs n 0 ≢ carriage_return → xs ≡ without_return xs
kept (b ∷ []) zero e h = ap (λ (t : Bool). cond t [] (b ∷ [])) (sym (ne_eqb b carriage_return h))
kept (b ∷ c ∷ bs) (suc n) e h = ap (λ (ys : List ℕ). b ∷ ys) (kept (c ∷ bs) n (omega arith) h)
kept xs n e h = absurd (omega arith)

empty_kept : (xs : List ℕ) → length xs ≡ 0 → xs ≡ without_return xs
empty_kept [] e = refl
empty_kept (b ∷ bs) e = absurd (omega arith)

pub returns-then-line-len-eq13 : goal.returns-then-line-len-eq13
returns-then-line-len-eq13 c = dropped c.args.line.now (length c.args.line.now - 1) (omega arith) c.if-line-len-eq13.true

pub returns-else-len-gt0 : goal.returns-else-len-gt0
returns-else-len-gt0 c = elim c.else-len-gt0.branch [
  | else-len-gt0-via-then-len-gt0+else-line-len-eq13 w ↦ kept c.args.line.now (length c.args.line.now - 1) (omega arith) w.if-line-len-eq13.false
  | else-len-gt0-via-else-len-gt0 w ↦ empty_kept c.args.line.now (omega arith)
]
