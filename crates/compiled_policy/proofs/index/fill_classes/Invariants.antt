use Rattle.std.proofs.Common.{◌≡◌, length}
use Rattle.compiled_policy.specs.Class.{is_in}
use Rattle.compiled_policy.specs.RuleSet.{AreSetsOf}
use Rattle.compiled_policy.proofs.index.fill_classes.Given as goal

-- the classes have the rules so far
abbrev pub invariant-loop-place : goal.invariant-loop-place
invariant-loop-place l = (length l.classes ≡ 42) × AreSetsOf l.rules is_in l.place l.classes
