use Rattle.media_agents.specs.Acts.{GoesOn, Trail}
use Rattle.media_agents.proofs.ChainLemmas.{Came}
use Rattle.media_agents.specs.Traffic.{SenderTakes}
use Rattle.published_registry.specs.Histories.{IsContinuedBy}
use Rattle.media_agents.proofs.sending.hear_all.Given as goal

abbrev pub invariant-loop-count : goal.invariant-loop-count
invariant-loop-count g l = record {
  known : IsContinuedBy l.fn.pass l.pass;
  hears : GoesOn (Came (SenderTakes l.now l.local) l.at l._count l.fn.pass l.pass) (Trail (g.S.Stepping.did l.fn.steps) (g.W.Wire.went l.fn.wire)) (Trail (g.S.Stepping.did l.steps) (g.W.Wire.went l.wire));
}
