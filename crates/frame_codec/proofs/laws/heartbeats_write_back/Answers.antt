use Rattle.frame_codec.proofs.DatagramsBack.{beat_written}
use Rattle.frame_codec.proofs.laws.heartbeats_write_back.Goals as goal

pub returns : goal.returns
returns c = beat_written
