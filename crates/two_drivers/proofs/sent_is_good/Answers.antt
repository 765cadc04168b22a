use Rattle.two_drivers.proofs.SentLemmas.{sent_good}
use Rattle.two_drivers.proofs.sent_is_good.Goals as goal

pub returns : goal.returns
returns c = sent_good
