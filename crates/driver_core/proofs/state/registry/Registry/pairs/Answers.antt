use Rattle.compiled_policy.specs.Numbered.{standing}
use Rattle.driver_core.specs.Pairs.{pairs_of}
use Rattle.driver_core.proofs.KeptLemmas.{kept_length}
use Rattle.driver_core.proofs.state.registry.Registry.pairs.Goals as goal

pub pairs-requires : goal.pairs-requires
pairs-requires c =
    kept_length c.self.inside.streams c.self.inside.clients.rows (standing c.self.inside.compiled) c.self.inside.compiled.epoch c.self.inside.last_number
    c.self.inside.readers c.self.invariant.kept

pub returns : goal.returns
unfolding pairs_of
returns c =
    rw (← c.self.view_is)
    (c.pairs.ensures c.self.inside.clients.rows (standing c.self.inside.compiled) c.self.inside.compiled.epoch c.self.invariant.kept.exact)
