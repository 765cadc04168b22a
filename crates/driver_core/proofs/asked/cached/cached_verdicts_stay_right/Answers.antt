use Rattle.driver_core.proofs.CacheLemmas.{cached_after, cached_none}
use Rattle.driver_core.proofs.asked.cached.cached_verdicts_stay_right.Goals as goal

pub returns-clause-empty : goal.returns-clause-empty
returns-clause-empty c = cached_none

pub returns-clause-after : goal.returns-clause-after
returns-clause-after c = cached_after
