use Rattle.std.proofs.Common.{◌-◌, ◌≤◌}
use Rattle.driver_world.specs.Past.{IsAt}
use Rattle.driver_world.proofs.past.Registries.go_on.Given as goal

-- it is the registry of its number
abbrev pub invariant-loop-shown : goal.invariant-loop-shown
invariant-loop-shown l = record {
  at : IsAt l.self.past l.shown;
  before : l.shown.number ≤ l.k;
}

abbrev pub decreases-loop-shown : goal.decreases-loop-shown
decreases-loop-shown l = l.k - l.shown.number
