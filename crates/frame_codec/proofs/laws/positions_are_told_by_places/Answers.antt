use Rattle.frame_codec.proofs.PositionLemmas.{position_back}
use Rattle.frame_codec.proofs.laws.positions_are_told_by_places.Goals as goal

pub returns : goal.returns
returns c = position_back
