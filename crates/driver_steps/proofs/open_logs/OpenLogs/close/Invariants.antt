use Rattle.std.proofs.Common.{◌≡◌, ◌≤◌, ◌-◌, ◌++◌, take, drop, length, filter}
use Rattle.driver_steps.specs.OpenLogs.{is_kept}
use Rattle.driver_steps.proofs.open_logs.OpenLogs.close.Given as goal

-- the logs passed stay, and then those of the others that do
abbrev pub invariant-loop-at : goal.invariant-loop-at
invariant-loop-at l =
    (l.self.pages ≡ l.fn.self.pages) × (l.self.room ≡ l.fn.self.room) × (l.at ≤ length l.self.logs)
    × (take l.at l.self.logs ++ filter (is_kept l.closes) (drop l.at l.self.logs) ≡ filter (is_kept l.closes) l.fn.self.logs)

abbrev pub decreases-loop-at : goal.decreases-loop-at
decreases-loop-at l = length l.self.logs - l.at
