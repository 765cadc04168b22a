use Rattle.frame_codec.specs.Frame.{pad_bytes}
use Rattle.frame_codec.proofs.frame.write_pad.Goals as goal

pub returns : goal.returns
unfolding pad_bytes
returns c = c.put.ensures.is
