use Rattle.std.proofs.Common.{◌≡◌, ℕ, ◌+◌, length}
use Rattle.policy_table.specs.Rows.{capped, entries_left, rows_in, rows_of}
use Rattle.policy_table.proofs.table.measured.Given as goal

-- the rows so far are counted, and with those that are left they are all
abbrev pub invariant-loop-place : goal.invariant-loop-place
invariant-loop-place l =
    (done : ℕ) × (l.rows ≡ capped done)
    × (done + length (rows_in (entries_left l.rules l.groups l.place.group l.place.low)) ≡ length (rows_of l.rules l.groups))

abbrev pub decreases-loop-place : goal.decreases-loop-place
decreases-loop-place l = length (entries_left l.rules l.groups l.place.group l.place.low)
