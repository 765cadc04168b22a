use Rattle.std.proofs.Common.{List, subst}
use Rattle.std.proofs.lemmas.List.{take_all}
use Rattle.media_agents.specs.Acts.{GoesOn}
use Rattle.media_agents.specs.declared.slots.LogAt.{LogAt}
use Rattle.media_agents.specs.Following.{ClosesEach, ClosesAt}
use Rattle.media_agents.proofs.ChainLemmas.{chain_none, chain_on}
use Rattle.media_agents.proofs.FollowingLemmas.{closes_one}
use Rattle.media_agents.proofs.following.close_all.Goals as goal

pub loop-at-init : goal.loop-at-init
loop-at-init g c = chain_none ClosesAt c.args.region.now (g.L.Logs.did c.args.logs.now)

pub loop-at-preserved : goal.loop-at-preserved
loop-at-preserved g c =
    let did = g.L.Logs.did in
    chain_on ClosesAt c.args.closes.now c.loop-at.at-index _ c.args.region.now c.loop-at.region c.free.new.region
    (did c.args.logs.now) (did c.loop-at.logs) (did c.close-log.new.self) c.loop-at-test.true c.loop-at.invariant
    (closes_one _ c.close-log.result c.loop-at.region c.free.new.region (did c.loop-at.logs) (did c.close-log.new.self) c.free.ensures c.close-log.ensures.closed)

pub returns : goal.returns
returns g c =
    subst (λ (ats : List LogAt). GoesOn (ClosesEach ats c.args.region.now c.loop-at.region) (g.L.Logs.did c.args.logs.now) (g.L.Logs.did c.loop-at.logs))
    (take_all c.loop-at.at-index c.args.closes.now c.loop-at-test.false) c.loop-at.invariant
