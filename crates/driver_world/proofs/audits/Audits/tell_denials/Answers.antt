use Rattle.std.proofs.Common.{◌≡◌, Some, None, sym, ◌∙◌}
use Rattle.driver_world.specs.Audits.{place_at}
use Rattle.driver_world.proofs.AuditLemmas.{tells_client, tells_nobody}
use Rattle.driver_world.proofs.audits.Audits.tell_denials.Goals as goal

pub returns-in-Some : goal.returns-in-Some
returns-in-Some c =
    let place : place_at c.self.inside.clients.items c.args.id ≡ Some c.in-Some.at =
    rw (← c.as_slice.ensures.value) (sym c.place_of.ensures ∙ c.in-Some.is) in
    rw (← c.self.view_is)
    (tells_client (record { conductor = c.self.inside.conductor; sender = c.self.inside.sender; receiver = c.self.inside.receiver; clients = c.self.inside.clients.items })
    c.args.id c.in-Some.at c.args.denials.now c.index_mut.result.now c.push_all.new.audit place c.index_mut.ensures.value c.push_all.ensures)

pub returns-in-None : goal.returns-in-None
returns-in-None c =
    let place : place_at c.self.inside.clients.items c.args.id ≡ None =
    rw (← c.as_slice.ensures.value) (sym c.place_of.ensures ∙ c.in-None.is) in
    rw (← c.self.view_is)
    (tells_nobody (record { conductor = c.self.inside.conductor; sender = c.self.inside.sender; receiver = c.self.inside.receiver; clients = c.self.inside.clients.items })
    c.args.id c.args.denials.now place)
