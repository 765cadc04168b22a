use Rattle.std.proofs.Common.{subst}
use Rattle.image_log.specs.Stored.{Stored, StandIn}
use Rattle.image_log.proofs.Found.{stand}
use Rattle.image_log.proofs.store.Store.into_lease.Goals as goal

pub returns-clause-stand : goal.returns-clause-stand
returns-clause-stand c =
    subst (λ (s : Stored). StandIn s.held.len s.frames c.self.inside.lease.bytes.items) c.self.view_is (stand _ _ _)
