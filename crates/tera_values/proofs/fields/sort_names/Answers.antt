use Rattle.std.proofs.Common.{string_bytes}
use Rattle.std.proofs.lemmas.List.Filters.{dedup_is}
use Rattle.tera_values.proofs.FieldLemmas.{left_of_sorted}
use Rattle.tera_values.proofs.fields.sort_names.Goals as goal

pub returns : goal.returns
returns c =
    rw (dedup_is _ _ _ c.dedup.ensures.filtered) (left_of_sorted (λ s. string_bytes s) c.args.names.now.items c.sort_unstable.new.self.items
    c.sort_unstable.ensures.permutation c.sort_unstable.ensures.sorted)
