use Rattle.destinations.proofs.RoomLemmas.{room_is_for_every_source}
use Rattle.destinations.proofs.laws.room_is_for_every_source.Goals as goal

pub returns : goal.returns
returns c = room_is_for_every_source
