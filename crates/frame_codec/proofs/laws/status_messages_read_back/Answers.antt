use Rattle.frame_codec.proofs.RoundTrips.{status_again}
use Rattle.frame_codec.proofs.laws.status_messages_read_back.Goals as goal

pub returns : goal.returns
returns c = status_again
