use Rattle.std.proofs.Common.{◌∙◌, ap, arith, sym}
use Rattle.std.proofs.lemmas.Result.{on_ok_weaker}
use Rattle.indexmap.specs.IndexMap.{spare}
use Rattle.tera_context.specs.Context.{new_names, state_of}
use Rattle.tera_context.proofs.Rooms.{few_new, on_failure, on_success, some_wanted}
use Rattle.tera_context.proofs.context.make_room.Goals as goal

pub returns-then-is_ok-clause-ok : goal.returns-then-is_ok-clause-ok
returns-then-is_ok-clause-ok c =
    let few = few_new (state_of c.reserve.new.self.entries) c.args.taken.now.entries in
    let room = on_success c.reserve.result _ c.reserve.ensures.ok (sym c.is_ok.ensures.value ∙ c.if-is_ok.true) in
    omega (arith, few, room, c.len.ensures.len)

pub returns-clause-ok : goal.returns-clause-ok
returns-clause-ok c =
    let same = ap (λ es. new_names (state_of es) c.args.taken.now.entries) c.reserve-2.ensures.entries in
    on_ok_weaker c.reserve-2.result (λ room. omega (arith, room, c.count_new.ensures, same)) c.reserve-2.ensures.ok

pub returns-clause-wanted : goal.returns-clause-wanted
returns-clause-wanted c =
    let same = ap (λ es. new_names (state_of es) c.args.taken.now.entries) c.reserve.ensures.entries in
    on_failure c.reserve-2.result _ _ c.reserve-2.ensures.succeeds
    (λ full. some_wanted _ (spare c.reserve.new.self) (λ fits. full (omega (arith, fits, c.count_new.ensures, same))))
