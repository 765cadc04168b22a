use Rattle.channel_uri.proofs.EndpointText.{endpoints_are_denoted}
use Rattle.channel_uri.proofs.laws.endpoints_are_denoted.Goals as goal

pub returns : goal.returns
returns c = endpoints_are_denoted
