use Rattle.std.proofs.Common.{◌≡◌, length}
use Rattle.compiled_policy.specs.Group.{is_of}
use Rattle.compiled_policy.specs.RuleSet.{AreSetsOf}
use Rattle.compiled_policy.proofs.index.fill_groups.Given as goal

-- the groups have the rules so far
abbrev pub invariant-loop-place : goal.invariant-loop-place
invariant-loop-place l = (length l.groups ≡ 64) × AreSetsOf l.rules is_of l.place l.groups
