use Rattle.std.proofs.Common.{take}
use Rattle.media_agents.specs.Acts.{Chain, GoesOn, Trail}
use Rattle.media_agents.specs.Traffic.{HearsOut, SenderTakes}
use Rattle.published_registry.specs.Histories.{IsContinuedBy}
use Rattle.media_agents.proofs.sending.hear_each.Given as goal

abbrev pub invariant-loop-at : goal.invariant-loop-at
invariant-loop-at g l = record {
  known : IsContinuedBy l.fn.pass l.pass;
  hears : GoesOn (Chain (HearsOut (SenderTakes l.now l.local)) (take l.at-index l.controls) l.fn.pass l.pass) (Trail (g.S.Stepping.did l.fn.steps) (g.W.Wire.went l.fn.wire)) (Trail (g.S.Stepping.did l.steps) (g.W.Wire.went l.wire));
}
