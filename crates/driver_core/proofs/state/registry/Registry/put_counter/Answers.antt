use Rattle.compiled_policy.specs.Numbered.{standing}
use Rattle.std.proofs.Common.{arith, ◌+◌}
use Rattle.driver_core.proofs.KeptLemmas.{tended_later}
use Rattle.driver_core.proofs.state.registry.Registry.put_counter.Goals as goal

pub invariant_of-self : goal.invariant_of-self
invariant_of-self c =
    tended_later c.self.inside.streams c.self.inside.clients.rows (standing c.self.inside.compiled) c.self.inside.compiled.epoch c.self.inside.last_number
    (c.self.inside.last_number + 1) c.self.inside.readers c.self.inside.all_read c.self.invariant (omega arith)
