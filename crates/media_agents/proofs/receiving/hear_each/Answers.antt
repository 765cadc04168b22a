use Rattle.std.proofs.Common.{List, subst}
use Rattle.std.proofs.lemmas.List.{take_all}
use Rattle.channel_uri.specs.declared.address.Address.{Address}
use Rattle.media_agents.specs.Acts.{Chain, GoesOn, Trail}
use Rattle.media_agents.proofs.ChainLemmas.{chain_none, chain_on}
use Rattle.media_agents.proofs.LookLemmas.{continues, stays_known}
use Rattle.media_agents.proofs.SetUpLemmas.{sets_up_more, sets_up_none}
use Rattle.media_agents.specs.Traffic.{HearsOut, ReceiverTakes}
use Rattle.media_agents.proofs.receiving.hear_each.Goals as goal

pub loop-endpoint-init : goal.loop-endpoint-init
loop-endpoint-init g c = record {
  known = stays_known c.args.pass;
  hears = chain_none (HearsOut (ReceiverTakes c.args.now)) (c.args.pass, c.args.set_ups.now) (Trail (g.S.Stepping.did c.args.steps.now) (g.W.Wire.went c.args.wire.now));
  set_ups = sets_up_none c.args.now c.args.set_ups.now;
}

pub loop-endpoint-preserved : goal.loop-endpoint-preserved
loop-endpoint-preserved g c =
    let did = g.S.Stepping.did in
    let went = g.W.Wire.went in
    record {
      known = continues c.loop-endpoint.invariant.known c.hear_all-next.ensures.known;
      hears = chain_on (HearsOut (ReceiverTakes c.args.now)) c.args.endpoints.now c.loop-endpoint.endpoint-index _ (c.args.pass, c.args.set_ups.now) (c.loop-endpoint.pass, c.loop-endpoint.set_ups) (c.hear_all-next.result.0, c.hear_all-next.new.set_ups)
          (Trail (did c.args.steps.now) (went c.args.wire.now)) (Trail (did c.loop-endpoint.steps) (went c.loop-endpoint.wire)) (Trail (did c.hear_all-next.new.steps) (went c.hear_all-next.new.wire)) c.loop-endpoint-test.true c.loop-endpoint.invariant.hears c.hear_all-next.ensures.hears;
      set_ups = sets_up_more c.args.now c.args.set_ups.now c.loop-endpoint.set_ups c.hear_all-next.new.set_ups c.loop-endpoint.invariant.set_ups c.hear_all-next.ensures.set_ups;
    }

pub returns : goal.returns
returns g c = record {
  known = c.loop-endpoint.invariant.known;
  hears = subst (λ (all : List Address). GoesOn (Chain (HearsOut (ReceiverTakes c.args.now)) all (c.args.pass, c.args.set_ups.now) (c.loop-endpoint.pass, c.loop-endpoint.set_ups)) (Trail (g.S.Stepping.did c.args.steps.now) (g.W.Wire.went c.args.wire.now)) (Trail (g.S.Stepping.did c.loop-endpoint.steps) (g.W.Wire.went c.loop-endpoint.wire)))
      (take_all c.loop-endpoint.endpoint-index c.args.endpoints.now c.loop-endpoint-test.false) c.loop-endpoint.invariant.hears;
  set_ups = c.loop-endpoint.invariant.set_ups;
}
