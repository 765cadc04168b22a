use Rattle.std.proofs.Common.{◌≡◌, map, take}
use Rattle.learnt_addresses.specs.LearntAddresses.{heard_again}
use Rattle.learnt_addresses.proofs.learnt_addresses.renewed.Given as goal

-- the rows so far are renewed
abbrev pub invariant-loop-row : goal.invariant-loop-row
invariant-loop-row l = l.renewed.items ≡ map (heard_again l.now l.address) (take l.row-index l.rows)
