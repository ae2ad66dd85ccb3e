use Rattle.std.proofs.Common.{◌≡◌, ◌≤◌, ap, ◌∙◌, arith, length, map}
use Rattle.std.proofs.lemmas.List.{take_all}
use Rattle.tera_values.specs.Key.{key_form}
use Rattle.tera_values.proofs.KeyLemmas.{distinct_alike}
use Rattle.tera_values.proofs.map.keys.copied_list.Goals as goal

pub returns : goal.returns
returns c =
    let keys = c.args.keys.now in
    let made = c.loop-key.made.items in
    let past : length keys ≤ c.loop-key.key-index = omega arith in
    let forms : map key_form made ≡ map key_form keys = c.loop-key.invariant.forms ∙ ap (map key_form) (take_all c.loop-key.key-index keys past) in
    record { forms = forms; distinct = distinct_alike keys made forms c.requires }
