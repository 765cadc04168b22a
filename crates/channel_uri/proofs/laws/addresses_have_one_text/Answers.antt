use Rattle.channel_uri.proofs.AddressText.{addresses_have_one_text}
use Rattle.channel_uri.proofs.laws.addresses_have_one_text.Goals as goal

pub returns : goal.returns
returns c = addresses_have_one_text
