-- Short texts that stand as they are before a quote.
use Rattle.std.proofs.Common.{◌≡◌, ◌≢◌, ℕ, ◌+◌, ◌<◌, ◌≤◌, ◌⊎◌, inl, inr, zero, suc, List, [], ◌∷◌, ◌++◌, length, get_or, take, drop, replicate, Some, None}
use Rattle.std.proofs.Common.{refl, ap, sym, ◌∙◌, subst, arith, append_assoc, length-append}
use Rattle.std.specs.List.{AllByRecursion}
use Rattle.std.specs.Str.{IsUtf8}
use Rattle.std.proofs.lemmas.List.{drop_at}
use Rattle.tera_script.specs.Text.{BeginsWithNoText}
use Rattle.tera_script.specs.TextParts.{IsPlain, IsShort, IsNoRun, BeginsWithRun}
use Rattle.tera_script.proofs.Fronts.{head, tail}
use Rattle.tera_script.proofs.Texts.{run_closed, run_found, same_text}
use Rattle.tera_script.proofs.Utf8.{byte_at}

-- bytes that stand for themselves before a quote are the run that the bytes begin with
one_run : (run t rest more : List ℕ) → AllByRecursion IsPlain run → IsNoRun rest → AllByRecursion IsPlain t → run ++ rest ≡ t ++ 34 ∷ more
    → (run ≡ t) × (rest ≡ 34 ∷ more)
one_run [] [] rest more p n q e = (refl, e)
one_run [] (c ∷ t) rest more p n q e = let first : IsNoRun (c ∷ (t ++ 34 ∷ more)) = subst IsNoRun e n in
    elim first [ inl x ↦ absurd (q.0.0 x) | inr x ↦ absurd (q.0.1 x) ]
one_run (b ∷ run) [] rest more p n q e = absurd (p.0.0 (ap head e))
one_run (b ∷ run) (c ∷ t) rest more p n q e = let same = one_run run t rest more p.1 n q.1 (ap tail e) in ((λ i. ap head e i ∷ same.0 i), same.1)

-- ---- where the code looks for one

pub none_near : (bytes : List ℕ) → ((k : ℕ) → k ≤ 31 → k < length bytes → IsPlain (get_or bytes k 0)) → (t rest : List ℕ) → IsShort t → bytes ≢ t ++ 34 ∷ rest
none_near bytes none t rest short e =
    (none (length t) short.1 (omega (arith, ap length e, length-append t (34 ∷ rest)))).0 (ap (λ xs. get_or xs (length t) 0) e ∙ byte_at t rest 34)

pub run_cut : (bytes : List ℕ) {n : ℕ} {run behind : List ℕ} → n < length bytes → ((k : ℕ) → k < n → IsPlain (get_or bytes k 0))
    → (get_or bytes n 0 ≡ 34) ⊎ (get_or bytes n 0 ≡ 92) → run ≡ take n bytes → behind ≡ drop n bytes → BeginsWithRun bytes run behind
run_cut bytes {n} within plain ends front back = rw (front, back) (run_found bytes n (omega arith) plain (λ _. ends))

module _ (run : List ℕ) {bytes behind : List ℕ} (found : BeginsWithRun bytes run behind) where
  pub run_is : (t rest : List ℕ) → IsShort t → bytes ≡ t ++ 34 ∷ rest → (run ≡ t) × (behind ≡ 34 ∷ rest)
  run_is t rest short e = one_run run t behind rest found.0 found.2 short.0 (sym found.1 ∙ e)

  pub short_found : (n : ℕ) (after : List ℕ) → length run ≡ n → n ≤ 31 → behind ≡ 34 ∷ after → IsShort run × (bytes ≡ run ++ 34 ∷ drop (n + 1) bytes)
  short_found n after is near e =
      let cut : bytes ≡ (run ++ 34 ∷ []) ++ after = found.1 ∙ ap (λ xs. run ++ xs) e ∙ sym (append_assoc run (34 ∷ []) after) in
      let rest : drop (n + 1) bytes ≡ after = ap (drop (n + 1)) cut ∙ drop_at (run ++ 34 ∷ []) after (n + 1) (omega (arith, length-append run (34 ∷ []))) in
      ((found.0, omega arith), found.1 ∙ ap (λ xs. run ++ xs) (e ∙ ap (λ xs. 34 ∷ xs) (sym rest)))

-- what is found is the text that stands there
pub short_is : {bytes s : List ℕ} → IsShort s → (more : List ℕ) → bytes ≡ s ++ 34 ∷ more → (t rest : List ℕ) → AllByRecursion IsPlain t
    → bytes ≡ t ++ 34 ∷ rest → s ≡ t
short_is {s = s} short more e t rest plain f = (one_run s t (34 ∷ more) rest short.0 (inl refl) plain (sym e ∙ f)).0

-- ---- where a text is lent

-- where no quote stands there is no text
pub no_quote : (bytes : List ℕ) → ((k : ℕ) → k < length bytes → IsPlain (get_or bytes k 0)) → BeginsWithNoText bytes
no_quote bytes none = λ text used u b.
    let inner = b.0 in
    (none (length inner) (omega (arith, ap length b.3, length-append inner (34 ∷ b.1)))).0
    (ap (λ xs. get_or xs (length inner) 0) b.3 ∙ byte_at inner b.1 34)

-- a run before a quote is the text there, and where it is no UTF-8 there is none
pub run_no_text : {bytes run behind : List ℕ} → BeginsWithRun bytes run behind → {after : List ℕ} → behind ≡ 34 ∷ after → ¬ IsUtf8 run
    → BeginsWithNoText bytes
run_no_text {bytes} {run} found closed n = λ text used u b.
    n (subst IsUtf8 (same_text bytes text run used (length run + 1) b (run_closed found closed)).0 u)
