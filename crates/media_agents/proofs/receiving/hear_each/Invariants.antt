use Rattle.std.proofs.Common.{take}
use Rattle.media_agents.specs.Acts.{Chain, GoesOn, Trail}
use Rattle.media_agents.specs.Traffic.{HearsOut, ReceiverTakes}
use Rattle.published_registry.specs.Histories.{IsContinuedBy}
use Rattle.media_agents.specs.SetUps.{SetsUp}
use Rattle.media_agents.proofs.receiving.hear_each.Given as goal

abbrev pub invariant-loop-endpoint : goal.invariant-loop-endpoint
invariant-loop-endpoint g l = record {
  known : IsContinuedBy l.fn.pass l.pass;
  hears : GoesOn (Chain (HearsOut (ReceiverTakes l.now)) (take l.endpoint-index l.endpoints) (l.fn.pass, l.fn.set_ups) (l.pass, l.set_ups)) (Trail (g.S.Stepping.did l.fn.steps) (g.W.Wire.went l.fn.wire)) (Trail (g.S.Stepping.did l.steps) (g.W.Wire.went l.wire));
  set_ups : SetsUp l.now l.fn.set_ups l.set_ups;
}
