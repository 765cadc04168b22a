use Rattle.std.proofs.Common.{◌+◌, refl, sym, ap, subst, ◌∙◌}
use Rattle.client_registry.specs.Clients.{ClientList}
use Rattle.client_registry.specs.Laws.{Rises}
use Rattle.client_registry.proofs.OrderLemmas.{given_next, rises_next}
use Rattle.client_registry.proofs.clients.Clients.admit.Goals as goal

pub invariant_of-self : goal.invariant_of-self
invariant_of-self c =
    let next = given_next c.args.self.now c.in_ok-number.number c.admission.result c.admission.ensures c.in_ok-number.was
    ∙ ap (λ (clients : ClientList). clients.last + 1) (sym c.self.view_is) in
    subst (λ rows. Rises 0 c.in_ok-number.number rows) (sym c.push.ensures)
    (rises_next c.self.inside.last c.in_ok-number.number c.self.inside.rows _ next refl c.self.invariant)
