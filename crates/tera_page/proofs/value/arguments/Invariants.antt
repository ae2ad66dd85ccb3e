use Rattle.std.proofs.Common.{◌≡◌, [], drop}
use Rattle.tera.specs.Pairs.{key_form_order, put_all}
use Rattle.tera_page.proofs.value.arguments.Given as goal
use Rattle.tera_page.specs.Values.{named}
use Rattle.tera_page.specs.View.{arguments_of, state_of}

-- the pairs so far, with those of the arguments that are left, are those of all
abbrev pub invariant-loop-argument : goal.invariant-loop-argument
invariant-loop-argument l =
    put_all key_form_order l.held (named (state_of l.scope) (arguments_of (drop l.argument-index l.given)))
    ≡ put_all key_form_order [] (named (state_of l.scope) (arguments_of l.given))
