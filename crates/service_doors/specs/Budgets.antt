-- What a connection says of what it took of the processors, and for how long it rests. Own rules; moments and times are in
-- nanoseconds.
use Rattle.std.specs.Prelude.{◌-◌, ◌/◌, min, nat_le, ℕ, Bool}
use Rattle.service_doors.specs.declared.budgets.Spending.{Spending}

-- nothing was taken yet by the client that the driver lets be silent for so long
abbrev pub new_spending : ℕ → Spending
new_spending liveness = record { liveness = liveness; told = 0; taken = 0 }

-- it said so last half a millisecond ago at least
abbrev pub is_due : Spending → ℕ → Bool
is_due spending now = nat_le 500000 (now - spending.told)

-- its thread took so much in all
abbrev pub after_telling : Spending → ℕ → ℕ → Spending
after_telling spending now taken = record spending { told = now; taken = taken }

-- No rest is longer than an eighth of the time for which the driver lets the client be silent: once a quarter of that is over, the
-- driver is told before the next request that the client is there, and that is after this rest.
abbrev pub rest_within : ℕ → ℕ → ℕ
rest_within liveness rest = min rest (liveness / 8)
