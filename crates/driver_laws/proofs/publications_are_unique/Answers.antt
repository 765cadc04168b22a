use Rattle.driver_laws.proofs.UniquePublicationLemmas.{publications_unique}
use Rattle.driver_laws.proofs.publications_are_unique.Goals as goal

pub returns : goal.returns
returns c = publications_unique
