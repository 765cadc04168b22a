use Rattle.frame_codec.proofs.WriteBack.{setup_written}
use Rattle.frame_codec.proofs.laws.setups_write_back.Goals as goal

pub returns : goal.returns
returns c = setup_written
