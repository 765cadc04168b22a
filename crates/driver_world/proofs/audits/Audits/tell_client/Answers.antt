use Rattle.std.proofs.Common.{◌≡◌, Some, None, [], ◌∷◌, sym, ◌∙◌}
use Rattle.driver_world.specs.Audits.{place_at}
use Rattle.driver_world.proofs.AuditLemmas.{tells_client, tells_nobody}
use Rattle.driver_world.proofs.audits.Audits.tell_client.Goals as goal

pub returns-in-Some-place_of : goal.returns-in-Some-place_of
returns-in-Some-place_of c =
    let place : place_at c.self.inside.clients.items c.args.id ≡ Some c.in-Some-place_of.at =
    rw (← c.as_slice.ensures.value) (sym c.place_of.ensures ∙ c.in-Some-place_of.is) in
    rw (c.in-Some.is, ← c.self.view_is)
    (tells_client (record { conductor = c.self.inside.conductor; sender = c.self.inside.sender; receiver = c.self.inside.receiver; clients = c.self.inside.clients.items })
    c.args.id c.in-Some-place_of.at (c.in-Some.decision ∷ []) c.index_mut.result.now c.push.new.self place c.index_mut.ensures.value c.push.ensures.history)

pub returns-in-None : goal.returns-in-None
returns-in-None c =
    let place : place_at c.self.inside.clients.items c.args.id ≡ None =
    rw (← c.as_slice.ensures.value) (sym c.place_of.ensures ∙ c.in-None.is) in
    rw (c.in-Some.is, ← c.self.view_is)
    (tells_nobody (record { conductor = c.self.inside.conductor; sender = c.self.inside.sender; receiver = c.self.inside.receiver; clients = c.self.inside.clients.items })
    c.args.id (c.in-Some.decision ∷ []) place)
