use Rattle.frame_codec.proofs.RoundTrips.{setup_again}
use Rattle.frame_codec.proofs.laws.setups_read_back.Goals as goal

pub returns : goal.returns
returns c = setup_again
