use Rattle.std.proofs.Common.{arith}
use Rattle.std.proofs.lemmas.Str.{IsCharBoundary-from_take, IsCharBoundary-from_drop, IsUtf8-from_ascii}
use Rattle.tera_scalars.proofs.text.behind_ascii.Goals as goal

pub split_at-requires : goal.split_at-requires
split_at-requires c = IsCharBoundary-from_drop _ _ (omega arith) (IsUtf8-from_ascii _ (rw c.if-backwards.true at c.requires.ascii))

pub split_at-requires-else-backwards : goal.split_at-requires-else-backwards
split_at-requires-else-backwards c =
    IsCharBoundary-from_take _ _ c.utf8.text c.requires.within (IsUtf8-from_ascii _ (rw c.if-backwards.false at c.requires.ascii))
