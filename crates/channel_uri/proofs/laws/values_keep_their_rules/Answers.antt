use Rattle.channel_uri.proofs.Parsed.{values_kept}
use Rattle.channel_uri.proofs.laws.values_keep_their_rules.Goals as goal

pub returns : goal.returns
returns c = values_kept
