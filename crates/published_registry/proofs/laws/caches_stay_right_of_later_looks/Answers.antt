use Rattle.driver_core.specs.Cached.{AreCached}
use Rattle.driver_core.specs.State.{State}
use Rattle.published_registry.proofs.Later.{kept_later}
use Rattle.published_registry.proofs.laws.caches_stay_right_of_later_looks.Goals as goal

pub returns : goal.returns
returns c earlier later held more =
    kept_later (λ (s : State). AreCached s held) (λ s event inputs. c.cached_verdicts_stay_right.ensures.after s event inputs held) earlier later more
