use Rattle.channel_uri.proofs.Canonical.{canonical_denotes}
use Rattle.channel_uri.proofs.laws.canonical_denotes.Goals as goal

pub returns : goal.returns
returns c = canonical_denotes
