use Rattle.tera_conversions.proofs.EntryLemmas.{in_their_order}
use Rattle.tera_conversions.proofs.maps.maps_keep_the_order_of_entries.Goals as goal

pub returns : goal.returns
returns g c = in_their_order g.K.PartialEq.eq g.K.ToKey.gives_key g.T.ToValue.gives g.met.K.ToKey.apart
