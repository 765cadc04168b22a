use Rattle.std.proofs.Common.{◌≡◌, ◌++◌, ◌-◌, ◌≤◌, take, drop, length}
use Rattle.driver_core.specs.LeftOut.{with_denial}
use Rattle.driver_core.proofs.asked.left_out.put_denial.Given as goal

-- the denials passed are on no greater number: the place is among those that are left
abbrev pub invariant-loop-at : goal.invariant-loop-at
invariant-loop-at l =
    l.denials.items ≡ l.initial.denials.items
    × l.at ≤ length l.denials.items
    × take l.at l.denials.items ++ with_denial (drop l.at l.denials.items) l.denial ≡ with_denial l.denials.items l.denial

abbrev pub decreases-loop-at : goal.decreases-loop-at
decreases-loop-at l = length l.denials.items - l.at
