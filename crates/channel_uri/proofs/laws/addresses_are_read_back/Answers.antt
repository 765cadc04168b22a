use Rattle.channel_uri.proofs.AddressBack.{addresses_are_read_back}
use Rattle.channel_uri.proofs.laws.addresses_are_read_back.Goals as goal

pub returns : goal.returns
returns c = addresses_are_read_back
