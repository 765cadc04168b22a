use Rattle.std.proofs.Common.{take, List, ℕ, ◌+◌}
use Rattle.media_agents.specs.Acts.{Trail}
use Rattle.media_agents.proofs.TrafficLemmas.{more_to, sends_more}
use Rattle.media_agents.specs.Traffic.{letters_to}
use Rattle.media_wire.specs.Letters.{letter}
use Rattle.media_agents.proofs.telling.send_all.Goals as goal

pub loop-datagram-preserved : goal.loop-datagram-preserved
loop-datagram-preserved g c =
    let local = c.args.local.now in
    let to = c.args.to.now in
    let all = c.args.datagrams.now in
    let at = c.loop-datagram.datagram-index in
    let one : List ℕ = c.as_slice.result.now in
    sends_more (letters_to local to (take at all)) (letters_to local to (take (at + 1) all)) (letter local to one)
    (Trail (g.S.Stepping.did c.args.steps.now) (g.W.Wire.went c.args.wire.now)) (Trail (g.S.Stepping.did c.loop-datagram.steps) (g.W.Wire.went c.loop-datagram.wire))
    (Trail (g.S.Stepping.did c.send.new.steps) (g.W.Wire.went c.send.new.wire))
    (more_to local to all at one c.loop-datagram-test.true (rw c.as_slice.ensures c.datagram-item.is))
    c.loop-datagram.invariant c.send.ensures
