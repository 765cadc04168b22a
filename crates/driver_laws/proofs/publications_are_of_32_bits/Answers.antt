use Rattle.driver_laws.proofs.WidthLemmas.{publications_fit}
use Rattle.driver_laws.proofs.publications_are_of_32_bits.Goals as goal

pub returns : goal.returns
returns c = publications_fit
