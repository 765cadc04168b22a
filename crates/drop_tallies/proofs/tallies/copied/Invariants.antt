use Rattle.std.proofs.Common.{◌≡◌, take}
use Rattle.drop_tallies.proofs.tallies.copied.Given as goal

-- the rows so far are there
abbrev pub invariant-loop-row : goal.invariant-loop-row
invariant-loop-row l = l.copied.items ≡ take l.row-index l.rows
