-- With blanks around them.
use Rattle.std.proofs.Common.{◌≤◌, ◌∷◌, ◌++◌, [], append-nil, ap, length, map, refl, subst, sym, ◌∙◌, arith, rules}
use Rattle.std.proofs.lemmas.List.{length-append, length-map}
use Rattle.tera_page.proofs.Lexed.{begins_behind, none_there, pushed, symbols_behind}
use Rattle.tera_page.proofs.symbol.symbols_in.Goals as goal
use Rattle.tera_page.specs.Symbols.{AreSymbols, BeginWith}
use Rattle.tera_page.specs.Tokens.{symbol_of}
use Rattle.tera_page.specs.Words.{AreBlanks}

pub symbols-init : goal.symbols-init
symbols-init c =
    let cut = c.past_blanks in
    let none = sym c.new-found.ensures.items in (
      search rules,
      λ ss more. subst (λ l. AreSymbols (map symbol_of l ++ ss) c.args.text.now) none
          (symbols_behind ss cut.result.0.now c.args.text.now cut.result.1.now cut.ensures.blanks cut.ensures.whole more),
      λ ss more. subst (λ l. BeginWith (map symbol_of l ++ ss) c.args.text.now) none
          (begins_behind ss cut.result.0.now c.args.text.now cut.result.1.now cut.ensures.blanks cut.ensures.whole more),
      subst (λ l. length l ≤ 128) none (omega arith),
    )

pub symbols-preserved : goal.symbols-preserved
symbols-preserved c =
    let cut = c.past_blanks-in-symbols in
    let found = c.symbols.found.items in
    let symbol = c.in-Some.symbol in
    let rest = c.symbols.rest.now in
    let after = c.in-Some.after.now in
    let spelled = c.in-Some.ensures.spelled in
    let more = c.in_ok-push.ensures.items in (
      search rules,
      λ ss given.
          let later = symbols_behind ss cut.result.0.now after cut.result.1.now cut.ensures.blanks cut.ensures.whole given in
          subst (λ l. AreSymbols l c.args.text.now) (sym (ap (λ l. map symbol_of l ++ ss) more ∙ pushed symbol_of found symbol ss))
          (c.symbols.invariant.1 (symbol_of symbol ∷ ss) ([], rest, after, refl, refl, spelled, later)),
      λ ss given.
          let later = begins_behind ss cut.result.0.now after cut.result.1.now cut.ensures.blanks cut.ensures.whole given in
          subst (λ l. BeginWith l c.args.text.now) (sym (ap (λ l. map symbol_of l ++ ss) more ∙ pushed symbol_of found symbol ss))
          (c.symbols.invariant.2 (symbol_of symbol ∷ ss) ([], rest, after, refl, refl, spelled, later)),
      search rules,
    )

pub returns-clause-ok : goal.returns-clause-ok
returns-clause-ok c =
    let none = none_there c.symbols.rest.now (sym c.is_empty.ensures ∙ c.symbols-test.false) in
    subst (λ l. AreSymbols l c.args.text.now) (append-nil (map symbol_of c.symbols.found.items))
    (c.symbols.invariant.1 [] (subst AreBlanks (sym none) refl))

pub returns-then-len-ge-SYMBOLS-clause-long : goal.returns-then-len-ge-SYMBOLS-clause-long
returns-then-len-ge-SYMBOLS-clause-long c is =
    let found = map symbol_of c.symbols.found.items in
    let one = symbol_of c.in-Some.symbol in
    let many : 128 ≤ length c.symbols.found.items = search rules in (
      found ++ one ∷ [],
      omega (arith, many, length-append found (one ∷ []), length-map c.symbols.found.items symbol_of),
      c.symbols.invariant.2 (one ∷ []) ([], c.symbols.rest.now, c.in-Some.after.now, refl, refl, c.in-Some.ensures.spelled, tt),
    )
