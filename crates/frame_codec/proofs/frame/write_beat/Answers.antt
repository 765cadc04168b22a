use Rattle.frame_codec.specs.Frame.{beat_bytes}
use Rattle.frame_codec.proofs.frame.write_beat.Goals as goal

pub returns : goal.returns
unfolding beat_bytes
returns c = c.put.ensures.is
