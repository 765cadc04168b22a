use Rattle.std.proofs.Common.{arith, sym, ◌∙◌}
use Rattle.media_agents.specs.Acts.{Trail}
use Rattle.media_agents.proofs.LookLemmas.{continues, stays_known}
use Rattle.media_agents.proofs.RunLemmas.{ran_more, ran_none, run_ends, run_full}
use Rattle.media_agents.proofs.sending.send_run.Goals as goal

pub loop-count-init : goal.loop-count-init
loop-count-init g c = record {
  known = stays_known c.args.pass;
  sends = ran_none c.args.now c.args.local.now c.args.at c.args.pass (Trail (g.S.Stepping.did c.args.steps.now) (g.W.Wire.went c.args.wire.now));
}

pub loop-count-preserved : goal.loop-count-preserved
loop-count-preserved g c =
    let did = g.S.Stepping.did in
    let went = g.W.Wire.went in
    let one = c.send_one-next.ensures.sends in
    record {
      known = continues c.loop-count.invariant.known c.send_one-next.ensures.known;
      sends = ran_more c.args.now c.args.local.now c.args.at
          c.loop-count._count one.0 c.args.pass c.loop-count.pass c.send_one-next.result.0 (Trail (did c.args.steps.now) (went c.args.wire.now)) (Trail (did c.loop-count.steps) (went c.loop-count.wire)) (Trail (did c.send_one-next.new.steps) (went c.send_one-next.new.wire))
          (sym one.1 ∙ c.if-not-sent.false) c.loop-count.invariant.sends one.2;
    }

pub returns-then-not-sent-clause-known : goal.returns-then-not-sent-clause-known
returns-then-not-sent-clause-known g c = continues c.loop-count.invariant.known c.send_one-next.ensures.known

pub returns-then-not-sent-clause-sends : goal.returns-then-not-sent-clause-sends
returns-then-not-sent-clause-sends g c =
    let did = g.S.Stepping.did in
    let went = g.W.Wire.went in
    let one = c.send_one-next.ensures.sends in
    run_ends c.args.now c.args.local.now c.args.at
    c.loop-count._count one.0 c.args.pass c.loop-count.pass c.send_one-next.result.0 (Trail (did c.args.steps.now) (went c.args.wire.now)) (Trail (did c.loop-count.steps) (went c.loop-count.wire)) (Trail (did c.send_one-next.new.steps) (went c.send_one-next.new.wire))
    c.loop-count-test.true (sym one.1 ∙ c.if-not-sent.true) c.loop-count.invariant.sends one.2

pub returns-clause-known : goal.returns-clause-known
returns-clause-known g c = c.loop-count.invariant.known

pub returns-clause-sends : goal.returns-clause-sends
returns-clause-sends g c =
    run_full c.args.now c.args.local.now c.args.at
    c.loop-count._count c.args.pass c.loop-count.pass (Trail (g.S.Stepping.did c.args.steps.now) (g.W.Wire.went c.args.wire.now)) (Trail (g.S.Stepping.did c.loop-count.steps) (g.W.Wire.went c.loop-count.wire)) (omega arith) c.loop-count.invariant.sends
