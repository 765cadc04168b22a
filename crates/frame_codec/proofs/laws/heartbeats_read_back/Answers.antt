use Rattle.frame_codec.proofs.FramesAgain.{beat_again}
use Rattle.frame_codec.proofs.laws.heartbeats_read_back.Goals as goal

pub returns : goal.returns
returns c = beat_again
