use Rattle.std.proofs.Common.{take}
use Rattle.media_agents.specs.Acts.{GoesOn}
use Rattle.media_agents.specs.Asking.{Gathers, Joins}
use Rattle.media_agents.proofs.pairing.join.Given as goal

abbrev pub invariant-loop-pair : goal.invariant-loop-pair
invariant-loop-pair g l = GoesOn (Gathers (Joins l.registry l.come) (take l.pair-index l.come) l.ends) (g.L.Logs.did l.fn.logs) (g.L.Logs.did l.logs)
