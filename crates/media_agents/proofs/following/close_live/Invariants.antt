use Rattle.std.proofs.Common.{take}
use Rattle.media_agents.specs.Acts.{Each, GoesOn}
use Rattle.media_agents.specs.Asking.{IsRowClosed}
use Rattle.media_agents.proofs.following.close_live.Given as goal

abbrev pub invariant-loop-row : goal.invariant-loop-row
invariant-loop-row g l = GoesOn (Each IsRowClosed (take l.row-index l.row-items)) (g.L.Logs.did l.fn.logs) (g.L.Logs.did l.logs)
