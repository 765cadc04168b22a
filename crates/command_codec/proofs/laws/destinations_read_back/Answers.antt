use Rattle.command_codec.proofs.DestinationLemmas.{destinations_read_back}
use Rattle.command_codec.proofs.laws.destinations_read_back.Goals as goal

pub returns : goal.returns
returns c = destinations_read_back
