-- By what may follow.
use Rattle.std.proofs.Common.{◌∙◌, ◌∷◌, ◌++◌, [], ap, append-nil, subst, sym, arith}
use Rattle.tera_page.proofs.argument.listed_in.Goals as goal
use Rattle.tera_page.specs.Arguments.{AreListed}
use Rattle.tera_page.specs.Parsing.{symbols_of}
use Rattle.tera_page.specs.View.{arguments_of}

pub arguments-init : goal.arguments-init
arguments-init c = (
  λ others rest more. subst (λ xs. AreListed (arguments_of xs ++ others) (symbols_of c.args.symbols.now) rest)
      (sym (c.in_ok-push.ensures.items ∙ ap (λ xs. xs ++ c.in_ok-first.first ∷ []) c.new-given.ensures.items))
      (symbols_of c.in_ok-first.left.now, c.in_ok-first.ensures.read, more),
  omega (arith, c.in_ok-first.ensures.shorter),
)

pub returns-in-Some-behind-clause-read : goal.returns-in-Some-behind-clause-read
returns-in-Some-behind-clause-read c =
    let rest = symbols_of c.in-Some-behind.rest.now in
    subst (λ given. AreListed given (symbols_of c.args.symbols.now) rest) (append-nil (arguments_of c.arguments.given.items))
    (c.arguments.invariant.0 [] rest c.in-Some-behind.ensures.first)
