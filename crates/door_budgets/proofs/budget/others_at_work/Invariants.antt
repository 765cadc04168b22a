use Rattle.std.proofs.Common.{◌≡◌, ◌+◌, ◌≤◌, drop}
use Rattle.door_budgets.specs.Taking.{count_at_work}
use Rattle.door_budgets.proofs.budget.others_at_work.Given as goal

-- those that are counted and those among the others are all
abbrev pub invariant-loop-door : goal.invariant-loop-door
invariant-loop-door l = record {
  all : l.count + count_at_work l.principal l.now (drop l.door-index l.doors) ≡ count_at_work l.principal l.now l.doors;
  few : l.count ≤ l.door-index;
}
