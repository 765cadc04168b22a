use Rattle.std.proofs.Common.{take}
use Rattle.media_agents.specs.Acts.{Chain, GoesOn, Trail}
use Rattle.media_agents.specs.Traffic.{SendsRun}
use Rattle.published_registry.specs.Histories.{IsContinuedBy}
use Rattle.media_agents.proofs.sending.send_each.Given as goal

abbrev pub invariant-loop-at : goal.invariant-loop-at
invariant-loop-at g l = record {
  known : IsContinuedBy l.fn.pass l.pass;
  sends : GoesOn (Chain (SendsRun l.now l.local) (take l.at-index l.all) l.fn.pass l.pass) (Trail (g.S.Stepping.did l.fn.steps) (g.W.Wire.went l.fn.wire)) (Trail (g.S.Stepping.did l.steps) (g.W.Wire.went l.wire));
}
