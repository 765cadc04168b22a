use Rattle.std.proofs.Common.{take}
use Rattle.media_agents.specs.Acts.{GoesOn}
use Rattle.media_agents.specs.Asking.{Gathers, SilenceOf}
use Rattle.media_agents.proofs.silence.silent_at.Given as goal

abbrev pub invariant-loop-row : goal.invariant-loop-row
invariant-loop-row g l = GoesOn (Gathers (SilenceOf l.moment l.liveness) (take l.row-index l.row-items) l.silent) (g.L.Logs.did l.fn.logs) (g.L.Logs.did l.logs)
