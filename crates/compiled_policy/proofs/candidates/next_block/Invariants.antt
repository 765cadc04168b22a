use Rattle.std.proofs.Common.{◌*◌, ◌-◌, ◌≤◌}
use Rattle.compiled_policy.specs.Search.{IsApart}
use Rattle.compiled_policy.proofs.candidates.next_block.Given as goal

-- the sets have nothing in common so far
abbrev pub invariant-loop-block : goal.invariant-loop-block
invariant-loop-block l = IsApart l.sets (4 * l.from) (4 * l.block) × (l.from ≤ l.block) × (l.block ≤ 4)

abbrev pub decreases-loop-block : goal.decreases-loop-block
decreases-loop-block l = 4 - l.block
