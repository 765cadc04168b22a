use Rattle.std.proofs.Common.{arith, refl}
use Rattle.media_agents.specs.Acts.{Trail}
use Rattle.media_agents.proofs.ChainLemmas.{came_more, came_none, hears_most, hears_out}
use Rattle.media_agents.proofs.LookLemmas.{continues, stays_known}
use Rattle.media_agents.proofs.ReadingLemmas.{receiver_takes}
use Rattle.media_agents.proofs.SetUpLemmas.{sets_up_by, sets_up_more, sets_up_none}
use Rattle.media_agents.specs.Traffic.{ReceiverTakes}
use Rattle.media_wire.specs.Letters.{letter}
use Rattle.std.specs.Prelude.{take}
use Rattle.media_agents.proofs.receiving.hear_all.Goals as goal

pub loop-count-init : goal.loop-count-init
loop-count-init g c = record {
  known = stays_known c.args.pass;
  hears = came_none (ReceiverTakes c.args.now) c.args.local.now (c.args.pass, c.args.set_ups.now) (Trail (g.S.Stepping.did c.args.steps.now) (g.W.Wire.went c.args.wire.now));
  set_ups = sets_up_none c.args.now c.args.set_ups.now;
}

pub loop-count-preserved : goal.loop-count-preserved
loop-count-preserved g c =
    let local = c.args.local.now in
    let did = g.S.Stepping.did in
    let went = g.W.Wire.went in
    record {
      known = continues c.loop-count.invariant.known c.hear_as_receiver-pass.ensures.known;
      hears = came_more (ReceiverTakes c.args.now) local c.loop-count._count (letter c.in-Some.read.1 local (take c.in-Some.read.0 c.next.new.self.bytes.items))
          (c.args.pass, c.args.set_ups.now) (c.loop-count.pass, c.loop-count.set_ups) (c.hear_as_receiver-pass.result, c.hear_as_receiver-pass.new.set_ups)
          (Trail (did c.args.steps.now) (went c.args.wire.now)) (Trail (did c.loop-count.steps) (went c.loop-count.wire)) (Trail (did c.hear_as_receiver-pass.new.steps) (went c.next.new.wire)) refl
          c.loop-count.invariant.hears
          (receiver_takes c.args.now local c.in-Some.read c.next.new.self.bytes.items c.datagram-bytes.result.now
          (c.loop-count.pass, c.loop-count.set_ups) (c.hear_as_receiver-pass.result, c.hear_as_receiver-pass.new.set_ups) (Trail (did c.loop-count.steps) (went c.loop-count.wire)) (did c.next.new.steps) (did c.hear_as_receiver-pass.new.steps) (went c.next.new.wire)
          c.datagram-bytes.ensures c.in-Some.ensures.wire c.hear_as_receiver-pass.ensures.heard);
      set_ups = sets_up_more c.args.now c.args.set_ups.now c.loop-count.set_ups c.hear_as_receiver-pass.new.set_ups c.loop-count.invariant.set_ups
          (sets_up_by c.args.now local c.in-Some.read.1 _ c.loop-count.set_ups c.hear_as_receiver-pass.new.set_ups c.hear_as_receiver-pass.ensures.set_ups);
    }

pub returns-in-None : goal.returns-in-None
returns-in-None g c =
    let did = g.S.Stepping.did in
    let went = g.W.Wire.went in
    record {
      known = c.loop-count.invariant.known;
      hears = hears_out (ReceiverTakes c.args.now) c.args.local.now c.loop-count._count (c.args.pass, c.args.set_ups.now) (c.loop-count.pass, c.loop-count.set_ups) c.next.new.self.bytes.items
          (Trail (did c.args.steps.now) (went c.args.wire.now)) (Trail (did c.loop-count.steps) (went c.loop-count.wire)) (Trail (did c.next.new.steps) (went c.next.new.wire)) (omega (arith, c.loop-count-test.true)) c.loop-count.invariant.hears c.in-None.ensures.wire;
      set_ups = c.loop-count.invariant.set_ups;
    }

pub returns : goal.returns
returns g c =
    let did = g.S.Stepping.did in
    let went = g.W.Wire.went in
    record {
      known = c.loop-count.invariant.known;
      hears = hears_most (ReceiverTakes c.args.now) c.args.local.now c.loop-count._count (c.args.pass, c.args.set_ups.now) (c.loop-count.pass, c.loop-count.set_ups)
          (Trail (did c.args.steps.now) (went c.args.wire.now)) (Trail (did c.loop-count.steps) (went c.loop-count.wire)) (omega arith) c.loop-count.invariant.hears;
      set_ups = c.loop-count.invariant.set_ups;
    }
