use Rattle.std.proofs.Common.{◌≡◌, ◌++◌, drop, map}
use Rattle.driver_core.specs.Listing.{row_of}
use Rattle.driver_core.proofs.asked.listing.rows_of.Given as goal

-- the rows so far, and then those of the counters that are left
abbrev pub invariant-loop-counter : goal.invariant-loop-counter
invariant-loop-counter l = l.rows.items ++ map row_of (drop l.counter-index l.counters) ≡ map row_of l.counters
