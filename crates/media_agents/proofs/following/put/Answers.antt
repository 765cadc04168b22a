use Rattle.std.proofs.Common.{◌≡◌, rules, ◌∙◌}
use mir.Syntax.{w32}
use mir.Val.{of_z, to_z}
use Rattle.media_agents.proofs.FollowingLemmas.{puts}
use Rattle.media_agents.proofs.following.put.Goals as goal

pub returns-in-Ok : goal.returns-in-Ok
returns-in-Ok g c =
    let did = g.L.Logs.did in
    let row = c.args.row.now in
    let session : to_z w32 (of_z w32 row.session) ≡ row.session = search rules in
    let stream : to_z w32 (of_z w32 row.stream) ≡ row.stream = search rules in
    puts c.args.registry.now row c.args.log c.of.result c.of-in-Ok.result (to_z w32 (of_z w32 row.session)) (to_z w32 (of_z w32 row.stream)) c.as_slice.result.now
    c.rejoin.result c.args.region.now (did c.args.logs.now) (did c.open.new.self) (did c.rejoin.new.self) c.of.ensures c.of-in-Ok.ensures session stream
    (c.as_slice.ensures.value ∙ c.readers.ensures) c.in-Ok.ensures.opened c.rejoin.ensures
