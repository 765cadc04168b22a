use Rattle.channel_uri.proofs.Parsed.{stated_read}
use Rattle.channel_uri.proofs.laws.stated_is_read.Goals as goal

pub returns : goal.returns
returns c = stated_read
