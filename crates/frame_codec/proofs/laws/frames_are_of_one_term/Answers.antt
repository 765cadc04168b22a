use Rattle.frame_codec.proofs.Telling.{frames_beside}
use Rattle.frame_codec.proofs.laws.frames_are_of_one_term.Goals as goal

pub returns : goal.returns
returns c = frames_beside
