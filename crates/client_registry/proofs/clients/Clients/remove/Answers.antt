use Rattle.std.proofs.Common.{sym, subst}
use Rattle.client_registry.specs.Laws.{Rises}
use Rattle.client_registry.proofs.OrderLemmas.{rises_without}
use Rattle.client_registry.proofs.clients.Clients.remove.Goals as goal

pub invariant_of-self : goal.invariant_of-self
invariant_of-self c =
    subst (λ rows. Rises 0 c.self.inside.last rows) (sym c.retain.ensures)
    (rises_without c.args.number 0 c.self.inside.last c.self.inside.rows c.self.invariant)
