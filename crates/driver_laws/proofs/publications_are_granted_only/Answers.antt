use Rattle.driver_laws.proofs.PublishingOnlyLemmas.{published_only}
use Rattle.driver_laws.proofs.publications_are_granted_only.Goals as goal

pub returns : goal.returns
returns c settings policy peers events = published_only _
