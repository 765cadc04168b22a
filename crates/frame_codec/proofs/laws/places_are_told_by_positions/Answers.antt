use Rattle.frame_codec.proofs.PositionLemmas.{term_id_back, offset_back}
use Rattle.frame_codec.proofs.laws.places_are_told_by_positions.Goals as goal

pub returns-clause-term : goal.returns-clause-term
returns-clause-term c = term_id_back

pub returns-clause-offset : goal.returns-clause-offset
returns-clause-offset c = offset_back
