use Rattle.std.proofs.Common.{◌≡◌, ◌++◌, take, drop, map}
use Rattle.driver_core.specs.Pairs.{pairs_of}
use Rattle.driver_steps.specs.OpenLogs.{rejoined_held}
use Rattle.driver_steps.proofs.open_logs.OpenLogs.rejoin.Given as goal

-- the logs passed are read as the registry says, and the others are as they were
abbrev pub invariant-loop-at : goal.invariant-loop-at
invariant-loop-at l =
    (l.self.pages ≡ l.fn.self.pages) × (l.self.room ≡ l.fn.self.room)
    × (l.self.logs ≡ map (rejoined_held (pairs_of l.registry)) (take l.at l.fn.self.logs) ++ drop l.at l.fn.self.logs)
