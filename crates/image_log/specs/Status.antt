-- When a receiver sends a status message (Aeron Transport Protocol Specification, flow and congestion control). The
-- quarter of a window is this project's own.
use Rattle.std.specs.Prelude.{ℕ, ◌-◌, ◌/◌, Bool, true, ◌||◌, nat_lt, nat_le, Option, Some, None}
use Rattle.image_log.specs.declared.status.LastStatus.{LastStatus}

-- a status message of a moment that reported a base
abbrev pub told : ℕ → ℕ → LastStatus
told moment base = record { moment = moment; base = base }

-- past the interval since the last one, or with a base that moved by a quarter of the window since
abbrev pub is_old : ℕ → ℕ → ℕ → ℕ → LastStatus → Bool
is_old now interval base window last = nat_lt interval (now - last.moment) || nat_le (window / 4) (base - last.base)

-- or none was sent yet
abbrev pub is_due : ℕ → ℕ → ℕ → ℕ → Option LastStatus → Bool
is_due now interval base window None = true
is_due now interval base window (Some last) = is_old now interval base window last
