use Rattle.std.proofs.Common.{List, subst}
use Rattle.std.proofs.lemmas.List.{take_all}
use Rattle.media_agents.specs.Acts.{Chain, GoesOn, Trail}
use Rattle.media_agents.specs.declared.slots.LogAt.{LogAt}
use Rattle.media_agents.proofs.ChainLemmas.{chain_none, chain_on}
use Rattle.media_agents.proofs.LookLemmas.{continues, stays_known}
use Rattle.media_agents.specs.Traffic.{SendsRun}
use Rattle.media_agents.proofs.sending.send_each.Goals as goal

pub loop-at-init : goal.loop-at-init
loop-at-init g c = record {
  known = stays_known c.args.pass;
  sends = chain_none (SendsRun c.args.now c.args.local.now) c.args.pass (Trail (g.S.Stepping.did c.args.steps.now) (g.W.Wire.went c.args.wire.now));
}

pub loop-at-preserved : goal.loop-at-preserved
loop-at-preserved g c =
    let did = g.S.Stepping.did in
    let went = g.W.Wire.went in
    record {
      known = continues c.loop-at.invariant.known c.send_run-next.ensures.known;
      sends = chain_on (SendsRun c.args.now c.args.local.now) c.args.all.now c.loop-at.at-index _ c.args.pass c.loop-at.pass c.send_run-next.result.0
          (Trail (did c.args.steps.now) (went c.args.wire.now)) (Trail (did c.loop-at.steps) (went c.loop-at.wire)) (Trail (did c.send_run-next.new.steps) (went c.send_run-next.new.wire)) c.loop-at-test.true c.loop-at.invariant.sends c.send_run-next.ensures.sends;
    }

pub returns : goal.returns
returns g c = record {
  known = c.loop-at.invariant.known;
  sends = subst (λ (all : List LogAt). GoesOn (Chain (SendsRun c.args.now c.args.local.now) all c.args.pass c.loop-at.pass) (Trail (g.S.Stepping.did c.args.steps.now) (g.W.Wire.went c.args.wire.now)) (Trail (g.S.Stepping.did c.loop-at.steps) (g.W.Wire.went c.loop-at.wire)))
      (take_all c.loop-at.at-index c.args.all.now c.loop-at-test.false) c.loop-at.invariant.sends;
}
