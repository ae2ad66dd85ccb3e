-- The entry's last value is the one that was put there.
use Rattle.std.proofs.Common.{◌∙◌, ◌+◌, ◌≤◌, sym, ap, subst, is_some, if◌then◌else◌, rules}
use Rattle.std.specs.String.{string_bytes}
use Rattle.indexmap.specs.Entry.{map_with_value}
use Rattle.indexmap.specs.IndexMap.{spare}
use Rattle.tera_context.proofs.Extends.{holds_on_err}
use Rattle.tera_context.proofs.Names.{get_named, named_insert}
use Rattle.tera_context.proofs.Rooms.{entry_room}
use Rattle.tera_context.proofs.context.put.Goals as goal

pub returns-clause-ok : goal.returns-clause-ok
unfolding map_with_value
returns-clause-ok c =
    let new = map_with_value c.in_ok-values.field-0 c.args.value in
    let kept = named_insert c.args.values.now new (string_bytes c.args.name) c.args.value (c.in_ok-values.ensures.update.0 c.args.value) in
    search rules

pub returns-clause-room : goal.returns-clause-room
unfolding map_with_value
returns-clause-room c =
    let new = map_with_value c.in_ok-values.field-0 c.args.value in
    let room = entry_room c.in_ok-values.field-0 c.args.value (spare c.args.values.now) _ c.in_ok-values.ensures.value
    c.in_ok-values.ensures.room.0 (c.in_ok-values.ensures.room_after_write c.args.value).0 in
    let there = sym (ap is_some (get_named c.args.values.now.entries (string_bytes c.args.name))) in
    let enough = subst (λ b. spare c.args.values.now ≤ spare new + (if b then 0 else 1)) there room in
    search rules

pub returns-in_err-values-clause-absent : goal.returns-in_err-values-clause-absent
returns-in_err-values-clause-absent c =
    holds_on_err c.from_residual.result _ (get_named c.args.values.now.entries (string_bytes c.args.name) ∙ c.in_err-values.ensures.absent)
