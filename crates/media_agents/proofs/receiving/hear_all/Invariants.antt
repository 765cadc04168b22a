use Rattle.media_agents.specs.Acts.{GoesOn, Trail}
use Rattle.media_agents.proofs.ChainLemmas.{Came}
use Rattle.media_agents.specs.SetUps.{SetsUp}
use Rattle.media_agents.specs.Traffic.{ReceiverTakes}
use Rattle.published_registry.specs.Histories.{IsContinuedBy}
use Rattle.media_agents.proofs.receiving.hear_all.Given as goal

abbrev pub invariant-loop-count : goal.invariant-loop-count
invariant-loop-count g l = record {
  known : IsContinuedBy l.fn.pass l.pass;
  hears : GoesOn (Came (ReceiverTakes l.now) l.local l._count (l.fn.pass, l.fn.set_ups) (l.pass, l.set_ups)) (Trail (g.S.Stepping.did l.fn.steps) (g.W.Wire.went l.fn.wire)) (Trail (g.S.Stepping.did l.steps) (g.W.Wire.went l.wire));
  set_ups : SetsUp l.now l.fn.set_ups l.set_ups;
}
