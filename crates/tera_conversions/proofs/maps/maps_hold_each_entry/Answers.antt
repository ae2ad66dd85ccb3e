use Rattle.tera_conversions.proofs.EntryLemmas.{all_there}
use Rattle.tera_conversions.proofs.maps.maps_hold_each_entry.Goals as goal

pub returns : goal.returns
returns g c = all_there g.K.PartialEq.eq g.K.ToKey.gives_key g.T.ToValue.gives g.met.K.ToKey.apart
