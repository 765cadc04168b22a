use Rattle.std.proofs.Common.{ℕ, subst}
use Rattle.driver_core.specs.declared.state.settings.Settings.{Settings}
use Rattle.log_slots.specs.Opening.{OpensAs, room_of}
use Rattle.media_agents.proofs.FollowingLemmas.{opens_row}
use Rattle.media_agents.proofs.following.open_row.Goals as goal

pub returns-in-Some : goal.returns-in-Some
returns-in-Some g c =
    let home = g.N.Naming.home in
    let did = g.L.Logs.did in
    let log = c.in-Some.log in
    let row = c.args.row.now in
    opens_row home c.args.registry.now (room_of c.args.memory) row log c.args.region.now _ c.put.new.region (did c.args.logs.now) (did c.put.new.logs)
    (subst (λ (m : ℕ). OpensAs home c.args.registry.now.settings m row log) c.moment-now.ensures
    (subst (λ (st : Settings). OpensAs home st c.moment-now.result row log) c.settings-settings.ensures c.in-Some.ensures.opens))
    c.in-Some.ensures.taken c.put.ensures
