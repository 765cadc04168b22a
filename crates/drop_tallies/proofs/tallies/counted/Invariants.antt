use Rattle.std.proofs.Common.{◌≡◌, map, take}
use Rattle.drop_tallies.specs.Tallies.{one_more}
use Rattle.drop_tallies.proofs.tallies.counted.Given as goal

-- the rows so far are counted
abbrev pub invariant-loop-row : goal.invariant-loop-row
invariant-loop-row l = l.counted.items ≡ map (one_more l.other) (take l.row-index l.rows)
