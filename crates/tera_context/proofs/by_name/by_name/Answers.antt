use Rattle.std.proofs.Common.{rules}
use Rattle.std.proofs.lemmas.List.Sorted.{answers_always}
use Rattle.tera_context.proofs.ByName.{sorted_entries}
use Rattle.tera_context.proofs.by_name.by_name.Goals as goal

pub returns-clause-ok : goal.returns-clause-ok
returns-clause-ok c =
    sorted_entries c.args.values.now.entries c.in_ok-all.all.items c.sort_unstable_by_key.new.self.items c.in_ok-all.ensures.apart
    c.in_ok-all.ensures.ok c.sort_unstable_by_key.ensures.permutation
    (c.sort_unstable_by_key.ensures.sorted (λ e. e.0) (answers_always _ _ _ (λ f a r g h. search rules)))
