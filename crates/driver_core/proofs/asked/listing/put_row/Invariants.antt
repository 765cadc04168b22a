use Rattle.std.proofs.Common.{◌≡◌, ◌++◌, ◌-◌, ◌≤◌, take, drop, length}
use Rattle.driver_core.specs.Listing.{with_row}
use Rattle.driver_core.proofs.asked.listing.put_row.Given as goal

-- the rows passed have no greater number: the row's place is among those that are left
abbrev pub invariant-loop-at : goal.invariant-loop-at
invariant-loop-at l =
    l.rows.items ≡ l.initial.rows.items
    × l.at ≤ length l.rows.items
    × take l.at l.rows.items ++ with_row (drop l.at l.rows.items) l.row ≡ with_row l.rows.items l.row

abbrev pub decreases-loop-at : goal.decreases-loop-at
decreases-loop-at l = length l.rows.items - l.at
