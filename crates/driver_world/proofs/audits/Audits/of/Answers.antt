use Rattle.std.proofs.Common.{◌≡◌, ℕ, Some, None, ap, sym, ◌∙◌}
use Rattle.audit_ring.specs.Audit.{Kept}
use Rattle.driver_world.specs.Audits.{kept_or_none, place_at}
use Rattle.driver_world.proofs.PlaceLemmas.{found_at, found_nowhere}
use Rattle.driver_world.proofs.audits.Audits.of.Goals as goal

pub returns-in-Some : goal.returns-in-Some
returns-in-Some c =
    let place : place_at c.self.inside.clients.items c.in-Client.id ≡ Some c.in-Some.at =
    rw (← c.as_slice.ensures.value) (sym c.place_of.ensures ∙ c.in-Some.is) in
    let found = (found_at c.self.inside.clients.items c.in-Client.id c.in-Some.at place).1 c.index.result.now in
    rw (c.in-Client.is, ← c.self.view_is)
    (ap (λ (client : ℕ × Kept). client.1) c.index.ensures ∙ sym (ap kept_or_none found))

pub returns-in-None : goal.returns-in-None
returns-in-None c =
    let place : place_at c.self.inside.clients.items c.in-Client.id ≡ None =
    rw (← c.as_slice.ensures.value) (sym c.place_of.ensures ∙ c.in-None.is) in
    rw (c.in-Client.is, ← c.self.view_is) (ap kept_or_none (found_nowhere c.self.inside.clients.items c.in-Client.id place))
