use Rattle.std.proofs.Common.{◌≡◌, ◌++◌, take, drop, map}
use Rattle.door_budgets.specs.Taking.{after_taking_by}
use Rattle.door_budgets.proofs.budget.take_each.Given as goal

-- the doors before this one are changed, the others are as they were
abbrev pub invariant-loop-door : goal.invariant-loop-door
invariant-loop-door l = l.doors ≡ map (after_taking_by l.principal l.now l.spent l.others l.carries l.processors) (take l.door-index l.initial.doors) ++ drop l.door-index l.initial.doors
