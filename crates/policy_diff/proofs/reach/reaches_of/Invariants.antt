use Rattle.std.proofs.Common.{◌≡◌, map, take}
use Rattle.policy_diff.specs.Reach.{reach_of}
use Rattle.policy_diff.proofs.reach.reaches_of.Given as goal

-- the reaches of the rules so far
abbrev pub invariant-loop-at : goal.invariant-loop-at
invariant-loop-at l = l.reaches.items ≡ map (reach_of l.old.policy l.new.policy) (take l.at l.rules)
