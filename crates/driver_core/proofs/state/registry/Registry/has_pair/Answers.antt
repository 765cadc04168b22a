use Rattle.compiled_policy.specs.Numbered.{standing}
use Rattle.driver_core.specs.LogRequests.{has_pair}
use Rattle.driver_core.specs.Pairs.{pairs_of}
use Rattle.driver_core.proofs.KeptLemmas.{kept_length}
use Rattle.driver_core.proofs.state.registry.Registry.has_pair.Goals as goal

pub has-requires : goal.has-requires
has-requires c =
    kept_length c.self.inside.streams c.self.inside.clients.rows (standing c.self.inside.compiled) c.self.inside.compiled.epoch c.self.inside.last_number
    c.self.inside.readers c.self.invariant.kept

pub returns : goal.returns
unfolding has_pair pairs_of
returns c =
    rw (← c.self.view_is)
    (c.has.ensures c.self.inside.clients.rows (standing c.self.inside.compiled) c.self.inside.compiled.epoch 0 c.self.inside.last_number
    c.self.invariant.kept.order.sources c.self.invariant.kept.exact)
