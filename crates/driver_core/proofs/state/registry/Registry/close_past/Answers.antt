use Rattle.compiled_policy.specs.Numbered.{standing}
use Rattle.driver_core.proofs.KeptLemmas.{kept_closed, kept_length, unknown}
use Rattle.driver_core.proofs.state.registry.Registry.close_past.Goals as goal

pub close-requires : goal.close-requires
close-requires c =
    kept_length c.self.inside.streams c.self.inside.clients.rows (standing c.self.inside.compiled) c.self.inside.compiled.epoch c.self.inside.last_number
    c.self.inside.readers c.self.invariant.kept

pub invariant_of-self : goal.invariant_of-self
invariant_of-self c =
    let after = c.close.ensures.kept c.self.inside.clients.rows (standing c.self.inside.compiled) c.self.inside.compiled.epoch c.self.invariant.kept.exact in
    rw c.close-2.ensures
    (unknown (kept_closed c.self.inside.streams c.self.inside.clients.rows (standing c.self.inside.compiled) c.self.inside.compiled.epoch c.self.inside.last_number
    c.self.inside.moment c.args.silent.now c.self.inside.readers c.close.new.self c.self.invariant.kept after))
