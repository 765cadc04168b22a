use Rattle.std.proofs.Common.{take}
use Rattle.media_agents.specs.Acts.{Each, GoesOn}
use Rattle.media_agents.specs.Asking.{Settles}
use Rattle.media_agents.proofs.pairing.settle.Given as goal

abbrev pub invariant-loop-pair : goal.invariant-loop-pair
invariant-loop-pair g l = GoesOn (Each (Settles l.registry) (take l.pair-index l.pairs)) (g.L.Logs.did l.fn.logs) (g.L.Logs.did l.logs)
