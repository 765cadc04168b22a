use Rattle.compiled_policy.specs.Numbered.{standing}
use Rattle.driver_core.proofs.KeptLemmas.{tended_touched}
use Rattle.driver_core.proofs.state.registry.Registry.hear.Goals as goal

pub invariant_of-self : goal.invariant_of-self
invariant_of-self c =
    rw c.touch.ensures
    (tended_touched c.self.inside.streams c.self.inside.clients (standing c.self.inside.compiled) c.self.inside.compiled.epoch c.self.inside.last_number c.self.inside.readers c.self.inside.all_read
    c.args.handle c.self.inside.moment c.self.invariant)
