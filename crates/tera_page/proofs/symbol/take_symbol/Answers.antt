-- Bytes of a word are ASCII.
use Rattle.std.proofs.Common.{◌≡◌, ◌<◌, ◌≤◌, ◌∙◌, ◌++◌, ap, drop, false, length, refl, slice_index, subst, sym, take, true, arith}
use Rattle.std.proofs.lemmas.Bool.Decides.{nat_tests}
use Rattle.std.proofs.lemmas.List.{take-append-drop}
use Rattle.std.specs.List.{list_all}
use Rattle.std.specs.Prelude.{ℕ}
use Rattle.tera_page.proofs.Fronts.{all_before, cut_behind_ascii}
use Rattle.tera_page.proofs.symbol.take_symbol.Goals as goal
use Rattle.tera_page.specs.Symbols.{IsSymbol, begins_word, is_word_byte}
use Rattle.tera_page.specs.Tokens.{symbol_of}

word_is_ascii : (b : ℕ) → is_word_byte b ≡ true → b < 128
word_is_ascii b is = grind (arith, nat_tests)

pub split_at-requires : goal.split_at-requires
split_at-requires c =
    let n = c.word_len-word.result in
    let same = c.as_bytes.ensures.value in
    cut_behind_ascii c.args.text.now n c.utf8.text (subst (λ l. n ≤ length l) same c.word_len-word.ensures.within)
    (λ i below. word_is_ascii _ (ap (λ l. is_word_byte (slice_index l i)) (sym same) ∙ c.word_len-word.ensures.word i below))

pub returns-then-word-gt0-clause-spelled : goal.returns-then-word-gt0-clause-spelled
returns-then-word-gt0-clause-spelled c =
    let n = c.word_len-word.result in
    let text = c.args.text.now in
    let w = c.split_at.result.0.now in
    let rest = c.split_at.result.1.now in
    let same = c.as_bytes.ensures.value in
    let within = subst (λ l. n ≤ length l) same c.word_len-word.ensures.within in
    let all = all_before is_word_byte text n within
    (λ i below. ap (λ l. is_word_byte (slice_index l i)) (sym same) ∙ c.word_len-word.ensures.word i below) in
    let ends : begins_word rest ≡ false =
    ap begins_word (c.split_at.ensures.back ∙ ap (drop n) (sym same)) ∙ c.word_len-word.ensures.ends in
    let whole : w ++ rest ≡ text =
    ap (λ l. l ++ rest) c.split_at.ensures.front ∙ ap (λ l. take n text ++ l) c.split_at.ensures.back ∙ take-append-drop n text in
    let some : 0 < length w = subst (λ k. 0 < k) (sym c.split_at.ensures.front_len) c.if-word-gt0.true in
    subst (λ l. IsSymbol (symbol_of c.symbol_of_word.result) l rest) whole
    (c.symbol_of_word.ensures rest (some, subst (λ l. list_all is_word_byte l ≡ true) (sym c.split_at.ensures.front) all, ends, refl))
