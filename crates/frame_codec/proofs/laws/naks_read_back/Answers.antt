use Rattle.frame_codec.proofs.RoundTrips.{nak_again}
use Rattle.frame_codec.proofs.laws.naks_read_back.Goals as goal

pub returns : goal.returns
returns c = nak_again
