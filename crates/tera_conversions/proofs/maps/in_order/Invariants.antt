use Rattle.std.proofs.Common.{◌≡◌, ◌++◌, []}
use Rattle.tera_conversions.specs.inner.Forms.{forms_of}
use Rattle.tera_meaning.specs.Pairs.{key_form_order, put_all}
use Rattle.tera_conversions.proofs.maps.in_order.Given as goal

-- the pair of each entry so far is put
abbrev pub invariant-loop-key : goal.invariant-loop-key
invariant-loop-key l = record {
  so_far : l.made ≡ put_all key_form_order [] (forms_of l.yielded);
  whole : l.yielded ++ l.key-iterator ≡ l.fn.sorted.entries;
}
