use Rattle.std.proofs.Common.{◌≡◌, filter, take}
use Rattle.learnt_addresses.specs.LearntAddresses.{is_other}
use Rattle.learnt_addresses.proofs.learnt_addresses.without.Given as goal

-- the others of the rows so far are kept
abbrev pub invariant-loop-row : goal.invariant-loop-row
invariant-loop-row l = l.others.items ≡ filter (is_other l.address) (take l.row-index l.rows)
