use Rattle.frame_codec.proofs.FramesAgain.{all_plain}
use Rattle.frame_codec.proofs.laws.written_frames_are_plain.Goals as goal

pub returns : goal.returns
returns c = all_plain
