use Rattle.std.proofs.Common.{arith, rules, ◌<◌}
use Rattle.tera_meaning.specs.Form.{Form}
use Rattle.tera_meaning.specs.KeyMeaning.{KeyForm}
use Rattle.tera_values.specs.Key.{key_form}
use Rattle.tera_values.specs.inner.Size.{value_size}
use Rattle.tera_values.proofs.PartsLaws.{first_depth}
use Rattle.tera_values.proofs.+debug.Goals as goal

pub map::MapDebug::fmt-entry-requires : goal.map::MapDebug::fmt-entry-requires
map::MapDebug::fmt-entry-requires g t c =
    let p : KeyForm × Form = (key_form c.in-Some.key.now, c.in-Some.value.now) in
    let less_deep = first_depth c.loop-key.key-iterator c.next.new.self p c.in-Some.ensures.steps in
    let within = c.loop-key.invariant in
    let measure = c.decreases in
    let falls : value_size c.in-Some.value.now < t = omega (arith, less_deep.0, within, measure) in
    search rules

pub map::MapDebug::fmt-loop-key-preserved : goal.map::MapDebug::fmt-loop-key-preserved
map::MapDebug::fmt-loop-key-preserved g t c =
    let p : KeyForm × Form = (key_form c.in-Some.key.now, c.in-Some.value.now) in
    let less_deep = first_depth c.loop-key.key-iterator c.next.new.self p c.in-Some.ensures.steps in
    let within = c.loop-key.invariant in
    omega (arith, less_deep.1, within)
