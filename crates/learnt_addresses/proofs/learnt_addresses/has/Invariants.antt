use Rattle.std.proofs.Common.{◌≡◌, drop}
use Rattle.learnt_addresses.specs.LearntAddresses.{has}
use Rattle.learnt_addresses.proofs.learnt_addresses.has.Given as goal

-- the rows that are left decide
abbrev pub invariant-loop-row : goal.invariant-loop-row
invariant-loop-row l = has (drop l.row-index l.rows) l.address ≡ has l.rows l.address
