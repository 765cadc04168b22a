use Rattle.compiled_policy.specs.Numbered.{standing}
use Rattle.driver_core.specs.Pairs.{pairs_of}
use Rattle.driver_core.proofs.KeptLemmas.{kept_length}
use Rattle.driver_core.proofs.state.registry.Registry.pairs_of_client.Goals as goal

pub pairs_of_client-requires : goal.pairs_of_client-requires
pairs_of_client-requires c =
    kept_length c.self.inside.streams c.self.inside.clients.rows (standing c.self.inside.compiled) c.self.inside.compiled.epoch c.self.inside.last_number
    c.self.inside.readers c.self.invariant.kept

pub returns-clause-exact : goal.returns-clause-exact
unfolding pairs_of
returns-clause-exact c =
    rw (← c.self.view_is)
    (c.pairs_of_client.ensures c.self.inside.clients.rows (standing c.self.inside.compiled) c.self.inside.compiled.epoch c.self.invariant.kept.exact)

pub returns-clause-order : goal.returns-clause-order
returns-clause-order c = rw (← c.self.view_is) c.self.invariant.kept.order.numbers
