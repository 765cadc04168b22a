use Rattle.compiled_policy.specs.Numbered.{standing}
use Rattle.std.proofs.Common.{◌∙◌}
use Rattle.driver_core.specs.Pairs.{pairs_of}
use Rattle.driver_core.specs.Readers.{readers_of}
use Rattle.driver_core.proofs.KeptLemmas.{kept_length}
use Rattle.driver_core.proofs.state.registry.Registry.readers.Goals as goal

pub of_source-requires : goal.of_source-requires
of_source-requires c =
    kept_length c.self.inside.streams c.self.inside.clients.rows (standing c.self.inside.compiled) c.self.inside.compiled.epoch c.self.inside.last_number
    c.self.inside.readers c.self.invariant.kept

pub returns : goal.returns
unfolding pairs_of readers_of
returns c =
    rw (← c.self.view_is)
    (c.put.ensures
    ∙ c.of_source.ensures.exact c.self.inside.clients.rows (standing c.self.inside.compiled) c.self.inside.compiled.epoch 0 c.self.inside.last_number
    c.self.invariant.kept.order.sources c.self.invariant.kept.exact)
