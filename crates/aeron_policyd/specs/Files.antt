-- When a file that is read again stood still. Own rules.
use Rattle.std.specs.Prelude.{ℕ, ◌-◌, nat_lt, if◌then◌else◌}

-- what is left of a second since its last change; all of it where that is yet to come by this host's clock
abbrev pub rest_after : ℕ → ℕ → ℕ
rest_after changed now = if nat_lt now changed then 1000000000 else 1000000000 - (now - changed)
