-- Nothing follows the last line feed.
use Rattle.std.proofs.Common.{rules, ◌≡◌, ◌||◌, ℕ, false, List, [], ◌∷◌, length, refl, sym, arith}
use Rattle.std.proofs.{lemmas.Bool.eqb-true, lemmas.Bool.eqb-false, lemmas.Result.err_from_is_err_and, lemmas.List.nil_from_length}
use Rattle.tera_replies.specs.Script.{last_line}
use Rattle.tera_report.proofs.SentLaws.{sends_nothing}
use Rattle.tera_replies.proofs.StretchLemmas.{Runs-silent, or_false}
use Rattle.tera_replies.proofs.feed.Feed.finish.Goals as goal
use Rattle.tera_replies.proofs.feed.Feed.finish.Goals.{then-self, else-self}

pub returns-then-is_empty-clause-ok : goal.returns-then-is_empty-clause-ok
returns-then-is_empty-clause-ok g c =
    let feed = c.args.self.now in
    let nothing : feed.part.items ≡ [] = nil_from_length feed.part.items (omega (arith, feed.part.ok.0, eqb-true _ _ (sym c.if-is_empty.ensures))) in
    rw nothing ([], false, Runs-silent feed.number feed.context [] (refl, refl), or_false feed.wanted_memory, sends_nothing _ _ _)

last_some : (xs : List ℕ) → (length xs ≡ 0 → ⊥) → last_line xs ≡ xs ∷ []
last_some [] some = absurd (some refl)
last_some (x ∷ xs) some = refl

pub returns-clause-ok : goal.returns-clause-ok
returns-clause-ok g c =
    let feed = c.args.self.now in
    let (text, runs, sent) = c.in_ok-wanted.ensures.ok in
    let some : length feed.part.items ≡ 0 → ⊥ = λ none. eqb-false _ _ (sym c.if-is_empty.ensures) (omega (arith, feed.part.ok.0, none)) in
    let wanted : c.if-self.result ≡ (feed.wanted_memory || c.in_ok-wanted.wanted) = elim c.if-self.branch
    [ then-self w ↦ search rules | else-self w ↦ search rules ] in
    rw (last_some feed.part.items some) (text, c.in_ok-wanted.wanted, rw c.as_slice-line.ensures.value at runs, wanted, sent)

pub returns-in_err-wanted-clause-err : goal.returns-in_err-wanted-clause-err
returns-in_err-wanted-clause-err g c =
    let feed = c.args.self.now in
    let p = err_from_is_err_and c.from_residual.result c.from_residual.ensures.1 in
    let some : length feed.part.items ≡ 0 → ⊥ = λ none. eqb-false _ _ (sym c.if-is_empty.ensures) (omega (arith, feed.part.ok.0, none)) in
    rw (p.1, p.2) (last_some feed.part.items some, rw c.as_slice-line.ensures.value at c.in_err-wanted.ensures.err)
