use Rattle.std.proofs.Common.{List, subst}
use Rattle.std.proofs.lemmas.List.{take_all}
use Rattle.media_agents.specs.Acts.{Chain, GoesOn, Trail}
use Rattle.media_agents.specs.declared.listing.ImageAt.{ImageAt}
use Rattle.media_agents.proofs.ChainLemmas.{chain_none, chain_on}
use Rattle.media_agents.proofs.LookLemmas.{continues, stays_known}
use Rattle.media_agents.specs.Traffic.{ReportsOne}
use Rattle.media_agents.proofs.receiving.report_each.Goals as goal

pub loop-image-init : goal.loop-image-init
loop-image-init g c = record {
  known = stays_known c.args.pass;
  reports = chain_none (ReportsOne c.args.now) c.args.pass (Trail (g.S.Stepping.did c.args.steps.now) (g.W.Wire.went c.args.wire.now));
}

pub loop-image-preserved : goal.loop-image-preserved
loop-image-preserved g c =
    let did = g.S.Stepping.did in
    let went = g.W.Wire.went in
    record {
      known = continues c.loop-image.invariant.known c.report_one-next.ensures.known;
      reports = chain_on (ReportsOne c.args.now) c.args.images.now c.loop-image.image-index _ c.args.pass c.loop-image.pass c.report_one-next.result.0
          (Trail (did c.args.steps.now) (went c.args.wire.now)) (Trail (did c.loop-image.steps) (went c.loop-image.wire)) (Trail (did c.report_one-next.new.steps) (went c.report_one-next.new.wire)) c.loop-image-test.true c.loop-image.invariant.reports c.report_one-next.ensures.reports;
    }

pub returns : goal.returns
returns g c = record {
  known = c.loop-image.invariant.known;
  reports = subst (λ (all : List ImageAt). GoesOn (Chain (ReportsOne c.args.now) all c.args.pass c.loop-image.pass) (Trail (g.S.Stepping.did c.args.steps.now) (g.W.Wire.went c.args.wire.now)) (Trail (g.S.Stepping.did c.loop-image.steps) (g.W.Wire.went c.loop-image.wire)))
      (take_all c.loop-image.image-index c.args.images.now c.loop-image-test.false) c.loop-image.invariant.reports;
}
