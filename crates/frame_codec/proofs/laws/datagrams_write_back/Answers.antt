use Rattle.frame_codec.proofs.DatagramsBack.{datagram_written}
use Rattle.frame_codec.proofs.laws.datagrams_write_back.Goals as goal

pub returns : goal.returns
returns c = datagram_written
