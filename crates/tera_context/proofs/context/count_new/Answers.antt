use Rattle.std.proofs.Common.{◌≡◌, ◌∙◌, ◌+◌, List, String, Global, false, true, ap, sym, length, is_some, if◌then◌else◌, arith, rules}
use Rattle.std.specs.String.{string_bytes}
use Rattle.tera_meaning.specs.Form.{Form}
use Rattle.tera_context.specs.Context.{new_names, state_of}
use Rattle.tera_context.proofs.Names.{get_named}
use Rattle.tera_context.proofs.Rooms.{new_next}
use Rattle.tera_context.proofs.context.count_new.Goals as goal

pub loop-name-preserved-then-not-contains_key : goal.loop-name-preserved-then-not-contains_key
loop-name-preserved-then-not-contains_key c =
    let left : List (String Global × Form) = c.next.new.self in
    let state = state_of c.args.values.now.entries in
    let name = string_bytes c.in-Some.name.now in
    let told : c.contains_key.result ≡ false = search rules in
    let absent = ap is_some (get_named c.args.values.now.entries name) ∙ sym c.contains_key.ensures ∙ told in
    let all = ap (new_names state) c.in-Some.ensures.steps
    ∙ new_next state (c.in-Some.name.now, c.in-Some.field-0-1.now) left
    ∙ ap (λ b. (if b then 0 else 1) + new_names state left) absent in
    let steps = ap length c.in-Some.ensures.steps in
    record {
      so_far = omega (arith, all, c.loop-name.invariant.so_far);
      fits = omega (arith, steps, c.loop-name.invariant.fits);
    }

pub loop-name-preserved : goal.loop-name-preserved
loop-name-preserved c =
    let left : List (String Global × Form) = c.next.new.self in
    let state = state_of c.args.values.now.entries in
    let name = string_bytes c.in-Some.name.now in
    let told : c.contains_key.result ≡ true = search rules in
    let there = ap is_some (get_named c.args.values.now.entries name) ∙ sym c.contains_key.ensures ∙ told in
    let all = ap (new_names state) c.in-Some.ensures.steps
    ∙ new_next state (c.in-Some.name.now, c.in-Some.field-0-1.now) left
    ∙ ap (λ b. (if b then 0 else 1) + new_names state left) there in
    let steps = ap length c.in-Some.ensures.steps in
    record {
      so_far = omega (arith, all, c.loop-name.invariant.so_far);
      fits = omega (arith, steps, c.loop-name.invariant.fits);
    }
