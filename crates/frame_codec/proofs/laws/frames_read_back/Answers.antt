use Rattle.frame_codec.proofs.FramesAgain.{frames_again}
use Rattle.frame_codec.proofs.laws.frames_read_back.Goals as goal

pub returns : goal.returns
returns c = frames_again
