use Rattle.driver_laws.proofs.RemovalLemmas.{removed_only}
use Rattle.driver_laws.proofs.subscriptions_are_removed_only.Goals as goal

pub returns : goal.returns
returns c settings policy peers events = removed_only _
