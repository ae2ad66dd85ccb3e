-- What was put is a text, and with what the walk takes of the rest it is all that it takes.
use Rattle.std.proofs.Common.{◌-◌, take}
use Rattle.std.specs.{Str.IsUtf8, Str.encode_utf8_all, Str.Iter.chars_rest}
use Rattle.tera_meaning.specs.Slice.{walked}
use Rattle.tera_scalars.specs.inner.Ends.{chars_from}
use Rattle.tera_scalars.proofs.TextLemmas.{Remains}
use Rattle.tera_scalars.proofs.text.strided.Given as goal

abbrev pub invariant-loop-turn : goal.invariant-loop-turn
invariant-loop-turn l = record {
  text : IsUtf8 l.made.items;
  so_far : Remains (l.fn.by - 1) l.waits (l.fn.count - l.turn) (chars_from l.fn.backwards (chars_rest l.rest)) l.made.items
      (encode_utf8_all (walked (l.fn.by - 1) 0 (take l.fn.count (chars_from l.fn.backwards l.fn.text))));
}
