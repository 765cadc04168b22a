use Rattle.frame_codec.proofs.WriteBack.{status_written}
use Rattle.frame_codec.proofs.laws.status_messages_write_back.Goals as goal

pub returns : goal.returns
returns c = status_written
