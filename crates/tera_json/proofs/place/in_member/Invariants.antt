use Rattle.std.proofs.Common.{◌≡◌, ◌++◌, codes, flat_map, string_bytes}
use Rattle.tera_json.specs.Places.{pointed}
use Rattle.tera_json.proofs.place.in_member.Given as goal

abbrev pub invariant-loop-c : goal.invariant-loop-c
invariant-loop-c l = string_bytes l.place ≡ codes "/" ++ flat_map pointed l.yielded
