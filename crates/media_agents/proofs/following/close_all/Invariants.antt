use Rattle.std.proofs.Common.{take}
use Rattle.media_agents.specs.Acts.{GoesOn}
use Rattle.media_agents.specs.Following.{ClosesEach}
use Rattle.media_agents.proofs.following.close_all.Given as goal

abbrev pub invariant-loop-at : goal.invariant-loop-at
invariant-loop-at g l = GoesOn (ClosesEach (take l.at-index l.closes) l.fn.region l.region) (g.L.Logs.did l.fn.logs) (g.L.Logs.did l.logs)
