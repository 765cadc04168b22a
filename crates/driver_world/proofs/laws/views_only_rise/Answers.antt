use Rattle.driver_world.proofs.SeatLemmas.{views_rise}
use Rattle.driver_world.proofs.laws.views_only_rise.Goals as goal

pub returns : goal.returns
returns c = views_rise
