use Rattle.frame_codec.proofs.DatagramsBack.{frames_stand}
use Rattle.frame_codec.proofs.laws.frames_stand_in_datagrams.Goals as goal

pub returns : goal.returns
returns c = frames_stand
