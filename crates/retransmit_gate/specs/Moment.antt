-- Moments, in nanoseconds.
use Rattle.std.specs.Prelude.{ℕ, ◌-◌, Bool, nat_lt, max}

-- past the limit since then: never at a moment below it, since a difference is at least 0
abbrev pub is_past : ℕ → ℕ → ℕ → Bool
is_past now last limit = nat_lt limit (now - last)

-- a moment earlier than one already seen counts as the one seen
abbrev pub later_of : ℕ → ℕ → ℕ
later_of seen now = max seen now
