use Rattle.std.proofs.Common.{take}
use Rattle.media_agents.specs.Acts.{Chain, GoesOn, Trail}
use Rattle.media_agents.specs.Traffic.{ReportsOne}
use Rattle.published_registry.specs.Histories.{IsContinuedBy}
use Rattle.media_agents.proofs.receiving.report_each.Given as goal

abbrev pub invariant-loop-image : goal.invariant-loop-image
invariant-loop-image g l = record {
  known : IsContinuedBy l.fn.pass l.pass;
  reports : GoesOn (Chain (ReportsOne l.now) (take l.image-index l.images) l.fn.pass l.pass) (Trail (g.S.Stepping.did l.fn.steps) (g.W.Wire.went l.fn.wire)) (Trail (g.S.Stepping.did l.steps) (g.W.Wire.went l.wire));
}
