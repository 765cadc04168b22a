use Rattle.std.proofs.Common.{◌≡◌, drop}
use Rattle.drop_tallies.specs.Tallies.{has}
use Rattle.drop_tallies.proofs.tallies.has.Given as goal

-- the rows that are left decide
abbrev pub invariant-loop-row : goal.invariant-loop-row
invariant-loop-row l = has (drop l.row-index l.rows) l.other ≡ has l.rows l.other
