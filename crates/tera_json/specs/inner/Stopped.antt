-- What a walk says where it stops.
use Rattle.std.specs.Prelude.{◌≡◌, List, [], ◌∷◌, string_bytes, ⊤}
use Rattle.tera_json.specs.Misfits as spec
use Rattle.tera_json.specs.declared.misfit.Misfit.{Misfit}
use Rattle.tera_json.specs.declared.misfit.Reason.{Reason}
use Rattle.tera_json.specs.declared.misfit.Reason.TheVariants.{Number, Levels, Kind, Key}
use Rattle.tera_json.specs.declared.misfit.Stop.{Stop}
use Rattle.tera_json.specs.declared.misfit.Stop.TheVariants.{Memory}
use Rattle.tera_json.specs.declared.misfit.Stop.TheVariants as stop

abbrev pub reason_of : Reason → spec.Reason
reason_of (Number text) = spec.no_integer text.now
reason_of Levels = spec.too_deep
reason_of (Kind name) = spec.no_json name.now
reason_of Key = spec.same_key

abbrev pub misfit_of : Misfit → spec.Misfit
misfit_of m = record { place = string_bytes m.place; reason = reason_of m.reason }

abbrev pub IsFirst : List spec.Misfit → spec.Misfit → Type 0
IsFirst [] m = ⊥
IsFirst (first ∷ others) m = m ≡ first

-- memory was refused, or this is the first of the misfits that are due
abbrev pub IsDue : List spec.Misfit → Stop → Type 0
IsDue found Memory = ⊤
IsDue found (stop.Misfit m) = IsFirst found (misfit_of m)
