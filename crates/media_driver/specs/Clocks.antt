-- What a driver's clock shows: wall time as it began, and what a clock that nobody sets went on since. Own rules.
use Rattle.std.specs.Prelude.{◌≡◌, ℕ, ◌+◌, ◌-◌, ◌^◌, ◌<◌, ◌≤◌, ◌⊎◌, min}
use Rattle.std.specs.Duration.{as_nanos}
use Rattle.media_driver.specs.declared.faults.ClockFault.{ClockFault}
use Rattle.media_driver.specs.declared.faults.ClockFault.TheVariants as faults
use Rattle.media_driver.specs.declared.clock.MachineClock.{MachineClock}

-- the moment in nanoseconds since 1970, or the greatest number of 64 bits: wall time was `wall` as the steady clock stood at
-- `began`, and it stands at `reading`
abbrev pub moment_at : ℕ → ℕ → ℕ → ℕ
moment_at wall began reading = min (wall + (reading - began)) (2 ^ 64 - 1)

-- a clock of that machine begins: by readings of both its clocks, of which that of wall time is below 2^63
pub record Begins {C : Type 0} (wall steady : C → ℕ → Type 0) (machine : C) (clock : MachineClock C) : Type 0 where
  pub machine_is : clock.machine ≡ machine
  pub wall_is : wall machine clock.wall
  pub wall_fits : clock.wall < 2 ^ 63
  pub began_is : steady machine (as_nanos clock.began)

-- why none begins: a clock of the machine is not read, or wall time is 2^63 or more
abbrev pub Fails : {C : Type 0} → (C → Type 0) → (C → ℕ → Type 0) → C → ClockFault → Type 0
Fails unread _ machine faults.Unread = unread machine
Fails _ wall machine faults.PastEnd = (reading : ℕ) × wall machine reading × (2 ^ 63 ≤ reading)

-- what the clock shows: a moment by some reading of the steady clock; where that is not read, the moment at which it began
abbrev pub Shows : {C : Type 0} → (C → Type 0) → (C → ℕ → Type 0) → MachineClock C → ℕ → Type 0
Shows unread steady clock moment =
    ((reading : ℕ) × steady clock.machine reading × (moment ≡ moment_at clock.wall (as_nanos clock.began) reading))
    ⊎ (unread clock.machine × (moment ≡ clock.wall))
