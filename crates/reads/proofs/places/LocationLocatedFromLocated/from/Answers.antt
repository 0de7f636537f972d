-- `places::LocationLocatedFromLocated::from` meets its contract.
use Rattle.reads.specs.Places.{reader_places}
use Rattle.std.proofs.Common.{refl}
use Rattle.reads.proofs.places.LocationLocatedFromLocated.from.Goals as goal

pub returns : goal.returns
unfolding reader_places
returns c = refl
