use Rattle.driver_laws.proofs.LearningLemmas.{addresses_come_and_go}
use Rattle.driver_laws.proofs.headline.addresses_come_and_go_only_so.Goals as goal

pub returns : goal.returns
returns c = addresses_come_and_go
