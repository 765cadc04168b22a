use Rattle.std.proofs.Common.{◌≡◌, filter, take}
use Rattle.learnt_addresses.specs.LearntAddresses.{stands}
use Rattle.learnt_addresses.proofs.learnt_addresses.standing.Given as goal

-- of the rows so far those that stand are kept
abbrev pub invariant-loop-row : goal.invariant-loop-row
invariant-loop-row l = l.standing.items ≡ filter (stands l.now l.timeout) (take l.row-index l.rows)
