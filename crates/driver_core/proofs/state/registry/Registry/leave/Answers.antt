use Rattle.compiled_policy.specs.Numbered.{standing}
use Rattle.driver_core.proofs.KeptLemmas.{kept_left, unknown}
use Rattle.driver_core.proofs.state.registry.Registry.leave.Goals as goal

pub invariant_of-self : goal.invariant_of-self
invariant_of-self c =
    let after = c.client_left.ensures.gone c.self.inside.clients (standing c.self.inside.compiled) c.self.inside.compiled.epoch c.self.inside.moment 0
    c.self.inside.last_number c.self.invariant.kept.order.numbers c.self.invariant.kept.exact
    in
    rw (c.client_left-2.ensures, c.remove.ensures)
    (unknown (kept_left c.self.inside.streams c.self.inside.clients (standing c.self.inside.compiled) c.self.inside.compiled.epoch c.self.inside.last_number
    c.args.client c.self.inside.moment c.self.inside.readers c.client_left.new.self c.self.invariant.kept after))
