use Rattle.driver_laws.proofs.LimitLemmas.{limits_kept}
use Rattle.driver_laws.proofs.NamedLemmas.{destinations_lawful}
use Rattle.driver_laws.proofs.NumberLemmas.{numbers_drawn}
use Rattle.driver_laws.proofs.RoomLemmas.{has_room_below}
use Rattle.driver_laws.proofs.room_is_left_below_the_limits.Goals as goal

pub returns : goal.returns
returns c settings policy peers events =
    has_room_below _ (destinations_lawful settings policy peers events).of_live
    (limits_kept settings policy peers events).sources (numbers_drawn settings policy peers events)
