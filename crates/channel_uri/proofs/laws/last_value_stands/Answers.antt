use Rattle.channel_uri.proofs.LastValue.{last_value}
use Rattle.channel_uri.proofs.laws.last_value_stands.Goals as goal

pub returns : goal.returns
returns c = last_value
