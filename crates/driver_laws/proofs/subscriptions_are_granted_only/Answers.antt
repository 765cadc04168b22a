use Rattle.driver_laws.proofs.SubscribingOnlyLemmas.{grants_only}
use Rattle.driver_laws.proofs.subscriptions_are_granted_only.Goals as goal

pub returns : goal.returns
returns c settings policy peers events = grants_only _
