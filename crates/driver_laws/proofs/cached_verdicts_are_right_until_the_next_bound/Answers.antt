use Rattle.driver_laws.proofs.CachedLemmas.{still_cached}
use Rattle.driver_laws.proofs.cached_verdicts_are_right_until_the_next_bound.Goals as goal

pub returns : goal.returns
returns c = still_cached
