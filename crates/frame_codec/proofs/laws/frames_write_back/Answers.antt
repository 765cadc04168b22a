use Rattle.frame_codec.proofs.FramesBack.{frames_written}
use Rattle.frame_codec.proofs.laws.frames_write_back.Goals as goal

pub returns : goal.returns
returns c = frames_written
