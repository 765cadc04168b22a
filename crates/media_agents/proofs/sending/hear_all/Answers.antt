use Rattle.std.proofs.Common.{arith, refl}
use Rattle.media_agents.specs.Acts.{Trail}
use Rattle.media_agents.proofs.ChainLemmas.{came_more, came_none, hears_most, hears_out}
use Rattle.media_agents.proofs.LookLemmas.{continues, stays_known}
use Rattle.media_agents.proofs.ReadingLemmas.{sender_takes}
use Rattle.media_agents.specs.Traffic.{SenderTakes}
use Rattle.media_wire.specs.Letters.{letter}
use Rattle.std.specs.Prelude.{take}
use Rattle.media_agents.proofs.sending.hear_all.Goals as goal

pub loop-count-init : goal.loop-count-init
loop-count-init g c = record {
  known = stays_known c.args.pass;
  hears = came_none (SenderTakes c.args.now c.args.local.now) c.args.at.now c.args.pass (Trail (g.S.Stepping.did c.args.steps.now) (g.W.Wire.went c.args.wire.now));
}

pub loop-count-preserved : goal.loop-count-preserved
loop-count-preserved g c =
    let local = c.args.local.now in
    let at = c.args.at.now in
    let did = g.S.Stepping.did in
    let went = g.W.Wire.went in
    record {
      known = continues c.loop-count.invariant.known c.hear_as_sender-pass.ensures.known;
      hears = came_more (SenderTakes c.args.now local) at c.loop-count._count (letter c.in-Some.read.1 at (take c.in-Some.read.0 c.next.new.self.bytes.items))
          c.args.pass c.loop-count.pass c.hear_as_sender-pass.result (Trail (did c.args.steps.now) (went c.args.wire.now)) (Trail (did c.loop-count.steps) (went c.loop-count.wire)) (Trail (did c.hear_as_sender-pass.new.steps) (went c.hear_as_sender-pass.new.wire)) refl
          c.loop-count.invariant.hears
          (sender_takes c.args.now local at c.in-Some.read c.next.new.self.bytes.items c.datagram-bytes.result.now
          c.loop-count.pass c.hear_as_sender-pass.result (Trail (did c.loop-count.steps) (went c.loop-count.wire)) (Trail (did c.next.new.steps) (went c.next.new.wire)) (Trail (did c.hear_as_sender-pass.new.steps) (went c.hear_as_sender-pass.new.wire))
          c.datagram-bytes.ensures c.in-Some.ensures.wire c.hear_as_sender-pass.ensures.heard);
    }

pub returns-in-None : goal.returns-in-None
returns-in-None g c =
    let at = c.args.at.now in
    let did = g.S.Stepping.did in
    let went = g.W.Wire.went in
    record {
      known = c.loop-count.invariant.known;
      hears = hears_out (SenderTakes c.args.now c.args.local.now) at c.loop-count._count c.args.pass c.loop-count.pass c.next.new.self.bytes.items
          (Trail (did c.args.steps.now) (went c.args.wire.now)) (Trail (did c.loop-count.steps) (went c.loop-count.wire)) (Trail (did c.next.new.steps) (went c.next.new.wire)) (omega (arith, c.loop-count-test.true)) c.loop-count.invariant.hears c.in-None.ensures.wire;
    }

pub returns : goal.returns
returns g c =
    let at = c.args.at.now in
    let did = g.S.Stepping.did in
    let went = g.W.Wire.went in
    record {
      known = c.loop-count.invariant.known;
      hears = hears_most (SenderTakes c.args.now c.args.local.now) at c.loop-count._count c.args.pass c.loop-count.pass
          (Trail (did c.args.steps.now) (went c.args.wire.now)) (Trail (did c.loop-count.steps) (went c.loop-count.wire)) (omega arith) c.loop-count.invariant.hears;
    }
