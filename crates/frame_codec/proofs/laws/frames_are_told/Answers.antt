use Rattle.frame_codec.proofs.Telling.{frames_told}
use Rattle.frame_codec.proofs.laws.frames_are_told.Goals as goal

pub returns : goal.returns
returns c = frames_told
