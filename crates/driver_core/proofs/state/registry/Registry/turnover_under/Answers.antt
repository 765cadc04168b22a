use Rattle.driver_core.specs.Pairs.{pairs_of}
use Rattle.driver_core.specs.Reloading.{in_force}
use Rattle.driver_core.specs.State.{at_moment}
use Rattle.policy_core.specs.Moments.{at}
use Rattle.driver_core.proofs.KeptLemmas.{kept_length}
use Rattle.driver_core.proofs.state.registry.Registry.turnover_under.Goals as goal

pub turnover_under-requires : goal.turnover_under-requires
turnover_under-requires c =
    kept_length c.self.inside.streams c.self.inside.clients.rows (at c.self.inside.compiled.given c.self.inside.compiled.as_of) c.self.inside.compiled.epoch c.self.inside.last_number
    c.self.inside.readers c.self.invariant.kept

pub returns-clause-gone : goal.returns-clause-gone
unfolding pairs_of in_force at_moment
returns-clause-gone c =
    rw (← c.self.view_is)
    (rw (c.epoch.ensures, c.standing_at.ensures, ← c.self.view_is) at c.turnover_under.ensures.gone (at c.self.inside.compiled.given c.self.inside.compiled.as_of) c.self.inside.compiled.epoch 0 c.self.inside.last_number c.self.invariant.kept.order.numbers
    c.self.invariant.kept.exact)

pub returns-clause-come : goal.returns-clause-come
unfolding pairs_of in_force at_moment
returns-clause-come c =
    rw (← c.self.view_is)
    (rw (c.epoch.ensures, c.standing_at.ensures, ← c.self.view_is) at c.turnover_under.ensures.come (at c.self.inside.compiled.given c.self.inside.compiled.as_of) c.self.inside.compiled.epoch 0 c.self.inside.last_number c.self.invariant.kept.order.numbers
    c.self.invariant.kept.exact)
