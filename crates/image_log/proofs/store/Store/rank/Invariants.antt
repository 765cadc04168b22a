use Rattle.std.proofs.Common.{◌≤◌, ◌-◌, length}
use Rattle.image_log.specs.Order.{rank}
use Rattle.image_log.proofs.store.Store.rank.Given as goal

-- the rank is none below `low` and none above `high`
abbrev pub invariant-loop-low : goal.invariant-loop-low
invariant-loop-low l = (l.low ≤ rank l.position l.self.frames) × (rank l.position l.self.frames ≤ l.high) × (l.high ≤ length l.self.frames)

abbrev pub decreases-loop-low : goal.decreases-loop-low
decreases-loop-low l = l.high - l.low
