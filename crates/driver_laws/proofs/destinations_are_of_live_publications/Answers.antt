use Rattle.driver_laws.proofs.NamedLemmas.{destinations_lawful}
use Rattle.driver_laws.proofs.destinations_are_of_live_publications.Goals as goal

pub returns : goal.returns
returns c = destinations_lawful
