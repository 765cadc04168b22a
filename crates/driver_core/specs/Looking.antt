-- Which policy is in force after an event. Own rules.
use Rattle.std.specs.Prelude.{◌≡◌, ◌⊎◌, ◌<◌}
use Rattle.driver_core.specs.State.{State}
use Rattle.policy_core.specs.Moments.{at, coming}

-- the policy is the one before under its number, or has a higher number
abbrev pub IsSameOrNewer : State → State → Type 0
IsSameOrNewer s after = ((after.given ≡ s.given) × (after.epoch ≡ s.epoch)) ⊎ (s.epoch < after.epoch)

-- the policy is what its text makes of it at the greatest moment seen, and what it becomes later is what its text says
abbrev pub IsAtItsMoment : State → Type 0
IsAtItsMoment s = (s.policy ≡ at s.given s.moment) × (s.prospects ≡ coming s.given s.moment)
