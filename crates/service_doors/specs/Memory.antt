-- How much memory the records take that are not whole yet, door by door. Own rules.
use Rattle.std.specs.Prelude.{ℕ, ◌+◌, ◌-◌, ◌^◌, ◌==◌, ◌||◌, nat_le, min, Bool, if◌then◌else◌}

-- 32 mebibytes: two of the longest records
abbrev pub most : ℕ
most = 33554432

-- a long record is begun where it fits beside those that have begun, or none has
abbrev pub may_begin : ℕ → ℕ → Bool
may_begin taken bytes = taken == 0 || nat_le (taken + bytes) most

abbrev pub begun : ℕ → ℕ → ℕ
begun taken bytes = if may_begin taken bytes then min (taken + bytes) (2 ^ 64 - 1) else taken
