use Rattle.std.proofs.Common.{◌≡◌, drop}
use Rattle.door_budgets.specs.Taking.{rest_of}
use Rattle.door_budgets.proofs.budget.rest_of.Given as goal

-- the doors that are left decide
abbrev pub invariant-loop-door : goal.invariant-loop-door
invariant-loop-door l = rest_of l.principal l.now (drop l.door-index l.doors) ≡ rest_of l.principal l.now l.doors
