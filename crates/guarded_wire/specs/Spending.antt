-- How much an address asked for lately. Own rules.
use Rattle.std.specs.Prelude.{ℕ, ◌+◌, ◌-◌, Bool, nat_lt, nat_le, if◌then◌else◌}
use Rattle.guarded_wire.specs.declared.spent.Spent.{Spent}

-- 60 milliseconds after the beginning of a time, or later, another one begins
abbrev pub begun : ℕ → Spent → Spent
begun now spent = if nat_le 60000000 (now - spent.since) then record { since = now; asked = 0 } else spent

abbrev pub may_ask : ℕ → Spent → Bool
may_ask budget spent = nat_lt spent.asked budget

abbrev pub once_more : Spent → Spent
once_more spent = record spent { asked = spent.asked + 1 }
