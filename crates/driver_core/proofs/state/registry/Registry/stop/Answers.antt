use Rattle.compiled_policy.specs.Numbered.{standing}
use Rattle.driver_core.proofs.KeptLemmas.{kept_cleared, unknown}
use Rattle.driver_core.proofs.state.registry.Registry.stop.Goals as goal

pub invariant_of-self : goal.invariant_of-self
invariant_of-self c =
    rw (c.close_all.ensures, c.close_all-2.ensures)
    (unknown (kept_cleared c.self.inside.streams c.clear.new.self.rows (standing c.self.inside.compiled) c.self.inside.compiled.epoch c.self.inside.last_number))
