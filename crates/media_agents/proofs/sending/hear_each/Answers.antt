use Rattle.std.proofs.Common.{List, subst}
use Rattle.std.proofs.lemmas.List.{take_all}
use Rattle.channel_uri.specs.declared.address.Address.{Address}
use Rattle.media_agents.specs.Acts.{Chain, GoesOn, Trail}
use Rattle.media_agents.proofs.ChainLemmas.{chain_none, chain_on}
use Rattle.media_agents.proofs.LookLemmas.{continues, stays_known}
use Rattle.media_agents.specs.Traffic.{HearsOut, SenderTakes}
use Rattle.media_agents.proofs.sending.hear_each.Goals as goal

pub loop-at-init : goal.loop-at-init
loop-at-init g c = record {
  known = stays_known c.args.pass;
  hears = chain_none (HearsOut (SenderTakes c.args.now c.args.local.now)) c.args.pass (Trail (g.S.Stepping.did c.args.steps.now) (g.W.Wire.went c.args.wire.now));
}

pub loop-at-preserved : goal.loop-at-preserved
loop-at-preserved g c =
    let did = g.S.Stepping.did in
    let went = g.W.Wire.went in
    record {
      known = continues c.loop-at.invariant.known c.hear_all-next.ensures.known;
      hears = chain_on (HearsOut (SenderTakes c.args.now c.args.local.now)) c.args.controls.now c.loop-at.at-index _ c.args.pass c.loop-at.pass c.hear_all-next.result.0
          (Trail (did c.args.steps.now) (went c.args.wire.now)) (Trail (did c.loop-at.steps) (went c.loop-at.wire)) (Trail (did c.hear_all-next.new.steps) (went c.hear_all-next.new.wire)) c.loop-at-test.true c.loop-at.invariant.hears c.hear_all-next.ensures.hears;
    }

pub returns : goal.returns
returns g c = record {
  known = c.loop-at.invariant.known;
  hears = subst (λ (all : List Address). GoesOn (Chain (HearsOut (SenderTakes c.args.now c.args.local.now)) all c.args.pass c.loop-at.pass) (Trail (g.S.Stepping.did c.args.steps.now) (g.W.Wire.went c.args.wire.now)) (Trail (g.S.Stepping.did c.loop-at.steps) (g.W.Wire.went c.loop-at.wire)))
      (take_all c.loop-at.at-index c.args.controls.now c.loop-at-test.false) c.loop-at.invariant.hears;
}
