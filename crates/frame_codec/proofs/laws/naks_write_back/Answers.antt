use Rattle.frame_codec.proofs.WriteBack.{nak_written}
use Rattle.frame_codec.proofs.laws.naks_write_back.Goals as goal

pub returns : goal.returns
returns c = nak_written
